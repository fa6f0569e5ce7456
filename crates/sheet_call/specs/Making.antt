-- What a sheet call makes of the bytes of a plan, as a function that computes. Assumes nothing.
use Rattle.std.specs.Prelude.{ℕ, ◌&&◌, List, [], length, Some, None, Ok, Err, Option, Result, ◌==◌, slice_index}
use Rattle.std.specs.List.{find, range_with_len}
use Rattle.plant.specs.Meaning.{Meaning, states, settings}
use Rattle.refusal.specs.declared.Refusal.{Refusal}
use Rattle.rules.specs.Listing.{rules_of}
use Rattle.rules.specs.declared.Rule.{Rule}
use Rattle.draft.specs.Rows.{rows_of, open_in}
use Rattle.draft.specs.declared.fault.DraftFault.TheVariants.{LostStart}
use Rattle.plan.specs.Judging.{judge}
use Rattle.plan.specs.Machine.{Parts, plan_meaning}
use Rattle.plan.specs.declared.fault.PlanFault.{PlanFault}
use Rattle.sheet_call.specs.Faults.{sheet_refusal}
use Rattle.sheet_call.specs.Page.{sheet_text, refusal_text}
use Rattle.sheet_call.specs.declared.fault.SheetFault.{SheetFault}
use Rattle.sheet_call.specs.declared.fault.SheetFault.TheVariants.{Plan, Draft}

-- the text, the rows and the rules, each from the first place on, and the number of rules or the fault
pub record Made : Type 0 where
  pub text : List ℕ
  pub rows : List ℕ
  pub rules : List Rule
  pub answer : Result ℕ SheetFault

-- the text of a refusal; none where there is no number
abbrev pub text_of_refusal : Option Refusal → List ℕ
text_of_refusal None = []
text_of_refusal (Some r) = refusal_text r

-- a refusal: its line, and no rules
abbrev pub refused : List ℕ → SheetFault → Made
refused rows f = record { text = text_of_refusal (sheet_refusal f); rows = rows; rules = []; answer = Err f }

-- the lowest start whose row is empty
abbrev pub lost_start : Meaning → List ℕ → Option ℕ
lost_start m rows = find (λ t. m.start t && slice_index rows t == 0) (range_with_len 0 (states m))

-- the sheet and the rules of the rows, unless a start is lost
abbrev pub drafted : Meaning → List ℕ → Option ℕ → Made
drafted m rows (Some t) = refused rows (Draft (LostStart t))
drafted m rows None = record {
  text = sheet_text (states m) (settings m) (open_in rows);
  rows = rows;
  rules = rules_of m.bits m.lines rows;
  answer = Ok (length (rules_of m.bits m.lines rows));
}

abbrev pub with_rows : Meaning → List ℕ → Made
with_rows m rows = drafted m rows (lost_start m rows)

-- what becomes of a plan that was judged: its refusal, or the draft of what it means
abbrev pub sheet_of_plan : Result Parts PlanFault → Made
sheet_of_plan (Err f) = refused [] (Plan f)
sheet_of_plan (Ok p) = with_rows (plan_meaning p) (rows_of (plan_meaning p))

-- what becomes of the bytes of a plan
abbrev pub sheet_of : List ℕ → Made
sheet_of bytes = sheet_of_plan (judge bytes)
