-- The number, place and layer of each fault of a plan. Assumes nothing.
use Rattle.std.specs.Prelude.{Some, None, Option}
use Rattle.records.specs.Faults.{bytes_refusal}
use Rattle.refusal.specs.declared.Refusal.{Refusal}
use Rattle.refusal.specs.Shown.{refusal}
use Rattle.plan.specs.declared.fault.PlanFault.{PlanFault}
use Rattle.plan.specs.declared.fault.PlanFault.TheVariants.{Bytes, HeadMisplaced, SizeLimits, TooManyClauses, Malformed, Loop, Clash, Memory}
use Rattle.refusal.specs.declared.Layer.TheVariants.{Plan}

-- a fault of the bytes as it is; 3 to 6 and 9 with the offset, 8 with the letter; want of memory has no number
abbrev pub plan_refusal : PlanFault → Option Refusal
plan_refusal (Bytes f) = Some (bytes_refusal f)
plan_refusal (HeadMisplaced offset) = Some (refusal 3 offset Plan)
plan_refusal SizeLimits = Some (refusal 4 0 Plan)
plan_refusal (TooManyClauses offset) = Some (refusal 5 offset Plan)
plan_refusal (Malformed offset) = Some (refusal 6 offset Plan)
plan_refusal (Loop letter) = Some (refusal 8 letter Plan)
plan_refusal (Clash offset) = Some (refusal 9 offset Plan)
plan_refusal Memory = None
