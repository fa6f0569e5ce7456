-- The number, place and layer of each fault of a draft. Assumes nothing.
use Rattle.draft.specs.declared.fault.DraftFault.{DraftFault}
use Rattle.draft.specs.declared.fault.DraftFault.TheVariants.{RowCount, RulePlaces, LostStart}
use Rattle.refusal.specs.declared.Layer.TheVariants.{Draft}
use Rattle.refusal.specs.declared.Refusal.{Refusal}
use Rattle.refusal.specs.Shown.{refusal}

-- 11 with the length needed where lent memory has a wrong length, 10 with the start that does not last
abbrev pub draft_refusal : DraftFault → Refusal
draft_refusal (RowCount needed) = refusal 11 needed Draft
draft_refusal (RulePlaces needed) = refusal 11 needed Draft
draft_refusal (LostStart state) = refusal 10 state Draft
