-- The number, place and layer of each fault of a sheet. Assumes nothing.
use Rattle.std.specs.Prelude.{Some, Option}
use Rattle.refusal.specs.declared.Layer.TheVariants.{Draft as DraftLayer}
use Rattle.refusal.specs.declared.Refusal.{Refusal}
use Rattle.refusal.specs.Shown.{refusal}
use Rattle.draft.specs.Faults.{draft_refusal}
use Rattle.plan.specs.Faults.{plan_refusal}
use Rattle.sheet_call.specs.declared.fault.SheetFault.{SheetFault}
use Rattle.sheet_call.specs.declared.fault.SheetFault.TheVariants.{TextLength, RowCount, RulePlaces, Plan, Draft}

-- 11 with the length needed where lent memory has a wrong length; the plan's and the draft's faults as they are
abbrev pub sheet_refusal : SheetFault → Option Refusal
sheet_refusal (TextLength needed) = Some (refusal 11 needed DraftLayer)
sheet_refusal (RowCount needed) = Some (refusal 11 needed DraftLayer)
sheet_refusal (RulePlaces needed) = Some (refusal 11 needed DraftLayer)
sheet_refusal (Plan f) = plan_refusal f
sheet_refusal (Draft f) = Some (draft_refusal f)
