-- What the steps of a sheet call do, where the memory lent has the right lengths. Assumes nothing.
use Rattle.std.specs.Prelude.{◌≡◌, ℕ, List, ◌++◌, take, drop, Ok, Err, Result}
use Rattle.plant.specs.Meaning.{Meaning, states, settings}
use Rattle.rules.specs.declared.Rule.{Rule}
use Rattle.draft.specs.Outcome.{Answered}
use Rattle.draft.specs.Rows.{open_in}
use Rattle.filling.specs.Writing.{Wrote}
use Rattle.draft.specs.declared.fault.DraftFault.{DraftFault}
use Rattle.plan.specs.Admitted.{Admitted}
use Rattle.plan.specs.Judging.{judge}
use Rattle.plan.specs.Kept.{Fails, Pleads}
use Rattle.plan.specs.Machine.{Parts, plan_meaning}
use Rattle.plan.specs.Refused.{Stores}
use Rattle.sheet_call.specs.Outcome.{Lent}
use Rattle.sheet_call.specs.Page.{sheet_text}
use Rattle.sheet_call.specs.declared.Sheet.{Sheet}
use Rattle.sheet_call.specs.declared.fault.SheetFault.{SheetFault}
use Rattle.sheet_call.specs.declared.fault.SheetFault.TheVariants.{TextLength, RowCount, RulePlaces, Plan, Draft}

-- the draft into the first rows; the other rows are as before
pub record FirstRows (m : Meaning) (rows rows' : List ℕ) (rules rules' : List Rule) (r : Result ℕ DraftFault) : Type 0 where
  pub promised : Answered m (take (states m) rows') rules rules' r
  pub others : rows' ≡ take (states m) rows' ++ drop (states m) rows

-- an admitted plan was drafted
pub record PlanDrafted (bytes rows rows' : List ℕ) (rules rules' : List Rule) (r : Result ℕ DraftFault) : Type 0 where
  pub parts : Parts
  pub judged : judge bytes ≡ Ok parts
  pub admitted : Admitted parts
  pub first_rows : FirstRows (plan_meaning parts) rows rows' rules rules' r

-- the lines of the rows were written
pub record LinesWritten (bytes : List ℕ) (before after : Lent) (r : Sheet) : Type 0 where
  pub count : ℕ
  pub answer : r.rules ≡ Ok count
  pub plan : PlanDrafted bytes before.rows after.rows before.rules after.rules (Ok count)
  pub text : Wrote before.text after.text 0 r.length
      (sheet_text (states (plan_meaning plan.parts)) (settings (plan_meaning plan.parts)) (open_in (take (states (plan_meaning plan.parts)) after.rows)))

-- the plan was read and drafted, and its lines written; else nothing was written but the rows of a draft that was turned away
abbrev pub Tried : List ℕ → Lent → Lent → Result Sheet SheetFault → Type 0
Tried bytes before after (Ok r) = LinesWritten bytes before after r
Tried bytes before after (Err (Plan f)) = Fails (judge bytes) f × Pleads (Stores bytes) f × (after ≡ before)
Tried bytes before after (Err (Draft f)) = PlanDrafted bytes before.rows after.rows before.rules after.rules (Err f) × (after.text ≡ before.text)
Tried bytes before after (Err (TextLength needed)) = ⊥
Tried bytes before after (Err (RowCount needed)) = ⊥
Tried bytes before after (Err (RulePlaces needed)) = ⊥
