-- What a sheet call answers and leaves, for all input. Assumes nothing.
use Rattle.std.specs.Prelude.{◌≡◌, ℕ, ◌<◌, ◌≤◌, Bool, ◌⊎◌, List, ◌++◌, length, take, drop, Ok, Err, Decides, Result, ◌≢◌, slice_index}
use Rattle.plant.specs.Lasting.{Open}
use Rattle.plant.specs.Meaning.{Meaning, states, settings}
use Rattle.rules.specs.declared.Rule.{Rule}
use Rattle.draft.specs.Outcome.{Answered}
use Rattle.draft.specs.declared.fault.DraftFault.{DraftFault}
use Rattle.plan.specs.Admitted.{Admitted}
use Rattle.plan.specs.Judging.{judge}
use Rattle.plan.specs.Machine.{Parts, plan_meaning}
use Rattle.plan.specs.Refused.{Stores}
use Rattle.plan.specs.declared.fault.PlanFault.TheVariants.{Memory}
use Rattle.sheet_call.specs.Making.{Made, sheet_of}
use Rattle.sheet_call.specs.Page.{sheet_text, digit_place}
use Rattle.sheet_call.specs.Room.{input_needed, text_needed, rows_needed, rules_needed}
use Rattle.sheet_call.specs.declared.Sheet.{Sheet}
use Rattle.sheet_call.specs.declared.fault.SheetFault.{SheetFault}
use Rattle.sheet_call.specs.declared.fault.SheetFault.TheVariants.{TextLength, RowCount, RulePlaces, Plan, Draft}

-- what the memory lent to a call holds
pub record Lent : Type 0 where
  pub text : List ℕ
  pub rows : List ℕ
  pub rules : List Rule

abbrev pub lent : List ℕ → List ℕ → List Rule → Lent
lent text rows rules = record { text = text; rows = rows; rules = rules }

-- the first places hold xs, and the others what they held
abbrev pub onto : {X : Type 0} → List X → List X → List X
onto xs before = xs ++ drop (length xs) before

-- the memory with what was made written from the first places on
abbrev pub written : Made → Lent → Lent
written made before = lent (onto made.text before.text) (onto made.rows before.rows) (onto made.rules before.rules)

-- the length of the text, and the number of rules or the fault
abbrev pub answered : Made → Sheet
answered made = record { length = length made.text; rules = made.answer }

-- refused without a text: nothing was written
abbrev pub LeftAlone : SheetFault → Lent → Lent → Sheet → Type 0
LeftAlone f before after r = (after ≡ before) × (r ≡ record { length = 0; rules = Err f })

-- there is a clause or ban to store, and no memory for it: nothing was written
abbrev pub NoMemory : List ℕ → Lent → Lent → Sheet → Type 0
NoMemory bytes before after r = Stores bytes × LeftAlone (Plan Memory) before after r

-- the text has a line for each state; digit a of line s is 1 just where (s, a) is safe and some lasting set holds all the states that can follow it
pub record ShowsOpen (m : Meaning) (text : List ℕ) : Type 0 where
  pub shown : ℕ → ℕ → Bool
  pub lines : text ≡ sheet_text (states m) (settings m) shown
  pub decided : (s a : ℕ) → Decides (shown s a) (Open m s a)
  pub ones : (s a : ℕ) → Open m s a → slice_index text (digit_place (settings m) s a) ≡ 49
  pub zeros : (s a : ℕ) → s < states m → a < settings m → (Open m s a → ⊥) → slice_index text (digit_place (settings m) s a) ≡ 48

-- the draft's answer as the sheet gives it
abbrev pub from_draft : Result ℕ DraftFault → Result ℕ SheetFault
from_draft (Ok n) = Ok n
from_draft (Err f) = Err (Draft f)

-- the rows and rules are those that the draft promises, and where it went through the text shows what is open
pub record DraftedSheet (m : Meaning) (before after : Lent) (r : Sheet) : Type 0 where
  pub draft : Result ℕ DraftFault
  pub answer : r.rules ≡ from_draft draft
  pub promised : Answered m (take (states m) after.rows) before.rules after.rules draft
  pub shown : (n : ℕ) → r.rules ≡ Ok n → ShowsOpen m (take r.length after.text)

-- the memory and the answer are as computed, by the first bytes alone; what was drafted is an admitted plan, and the draft keeps its promises
pub record AsComputed (bytes : List ℕ) (before after : Lent) (r : Sheet) : Type 0 where
  pub memory : after ≡ written (sheet_of bytes) before
  pub answer : r ≡ answered (sheet_of bytes)
  pub first_bytes : sheet_of (take input_needed bytes) ≡ sheet_of bytes
  pub plan : (p : Parts) → judge bytes ≡ Ok p → Admitted p × DraftedSheet (plan_meaning p) before after r

-- either there was no memory for the plan, or all is as computed
abbrev pub MadeOrNot : List ℕ → Lent → Lent → Sheet → Type 0
MadeOrNot bytes before after r = NoMemory bytes before after r ⊎ AsComputed bytes before after r

-- the memory is tested first: the text, the rows, the places for rules (11); then either there was no memory for the plan, or all is as computed
pub record SheetCall (bytes : List ℕ) (before after : Lent) (r : Sheet) : Type 0 where
  pub short_text : length before.text < text_needed → LeftAlone (TextLength text_needed) before after r
  pub wrong_rows : text_needed ≤ length before.text → (length before.rows ≢ rows_needed) → LeftAlone (RowCount rows_needed) before after r
  pub wrong_places : text_needed ≤ length before.text → length before.rows ≡ rows_needed → (length before.rules ≢ rules_needed) → LeftAlone (RulePlaces rules_needed) before after r
  pub made : text_needed ≤ length before.text → length before.rows ≡ rows_needed → length before.rules ≡ rules_needed → MadeOrNot bytes before after r
