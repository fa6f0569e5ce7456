-- What laying bans over a plant answers, for all input. Assumes nothing.
use Rattle.std.specs.Prelude.{◌≡◌, ◌<◌, ◌≤◌, List, ◌++◌, length}
use Rattle.plant.specs.Meaning.{Meaning}
use Rattle.plant.specs.declared.condition.Condition.{Condition}
use Rattle.layers.specs.Banned.{banned_meaning, BannedWords}
use Rattle.layers.specs.Bans.{most_bans, AllWithin, FirstBeyond}
use Rattle.layers.specs.declared.fault.LayerFault.{LayerFault}
use Rattle.layers.specs.declared.fault.LayerFault.TheVariants.{TooManyBans, BanBeyond}

-- the bans are few enough and within the sizes; what they make of the plant, in words;
-- and bans laid over bans are all of them laid at once
pub record Laid (m : Meaning) (bans : List Condition) : Type 0 where
  pub few : length bans ≤ most_bans
  pub within : AllWithin m.bits m.lines bans
  pub words : BannedWords m bans (banned_meaning m bans)
  pub over_bans : (base : Meaning) (lower : List Condition) → m ≡ banned_meaning base lower → banned_meaning m bans ≡ banned_meaning base (lower ++ bans)

-- one ban too many (13), else the first ban beyond the sizes (12)
abbrev pub TurnedAway : Meaning → List Condition → LayerFault → Type 0
TurnedAway m bans TooManyBans = most_bans < length bans
TurnedAway m bans (BanBeyond i) = (length bans ≤ most_bans) × FirstBeyond m.bits m.lines bans i
