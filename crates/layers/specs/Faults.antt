-- The number, place and layer of each fault of a ban layer. Assumes nothing.
use Rattle.layers.specs.Bans.{most_bans}
use Rattle.layers.specs.declared.fault.LayerFault.{LayerFault}
use Rattle.layers.specs.declared.fault.LayerFault.TheVariants.{TooManyBans, BanBeyond}
use Rattle.refusal.specs.declared.Layer.TheVariants.{Plant}
use Rattle.refusal.specs.declared.Refusal.{Refusal}
use Rattle.refusal.specs.Shown.{refusal}

-- 13 with the most that there may be, 12 with the index of the first ban beyond the sizes
abbrev pub layer_refusal : LayerFault → Refusal
layer_refusal TooManyBans = refusal 13 most_bans Plant
layer_refusal (BanBeyond index) = refusal 12 index Plant
