-- The number, place and layer of each fault of a call. Assumes nothing.
use Rattle.refusal.specs.declared.Layer.TheVariants.{Log}
use Rattle.refusal.specs.declared.Refusal.{Refusal}
use Rattle.refusal.specs.Shown.{refusal}
use Rattle.reader.specs.Shown.{phase_place}
use Rattle.reader.specs.declared.fault.LogFault.{LogFault}
use Rattle.reader.specs.declared.fault.LogFault.TheVariants.{OutOfTurn, BeyondSizes, NoStart, Misfit, NotFollowing}

-- 15 with the phase, else the number that was offered with 12, 16, 17 or 18
abbrev pub log_refusal : LogFault → Refusal
log_refusal (OutOfTurn p) = refusal 15 (phase_place p) Log
log_refusal (BeyondSizes k) = refusal 12 k Log
log_refusal (NoStart t) = refusal 16 t Log
log_refusal (Misfit a) = refusal 17 a Log
log_refusal (NotFollowing t) = refusal 18 t Log
