-- Strings of calls, read with a list of rules. Assumes nothing.
use Rattle.std.specs.Prelude.{◌≡◌, ℕ, ◌<◌, Bool, true, List, [], ◌∷◌, is_ok, Decides}
use Rattle.plant.specs.Lasting.{Largest}
use Rattle.plant.specs.Meaning.{Meaning, settings}
use Rattle.rules.specs.declared.Rule.{Rule}
use Rattle.reader.specs.Law.{Event, Lawful, Permitted, told}
use Rattle.reader.specs.Step.{Answer, answer, after, fits_there}
use Rattle.reader.specs.declared.call.Call.{Call}
use Rattle.reader.specs.declared.call.Call.TheVariants.{Set}
use Rattle.reader.specs.declared.phase.Phase.{Phase}
use Rattle.reader.specs.declared.phase.Phase.TheVariants.{Closed, Poised}

-- the answers to calls made one after another, turned-away calls included
abbrev pub answers : Meaning → List Rule → Phase → List Call → List Answer
answers m rs p [] = []
answers m rs p (c ∷ cs) = answer m rs p c ∷ answers m rs (after m rs p c) cs

-- the phase after them
abbrev pub phase_after : Meaning → List Rule → Phase → List Call → Phase
phase_after m rs p [] = p
phase_after m rs p (c ∷ cs) = phase_after m rs (after m rs p c) cs

-- calls with their answers, as what happened
abbrev pub happened : List Call → List Answer → List Event
happened [] rs = []
happened (c ∷ cs) [] = []
happened (c ∷ cs) (r ∷ rs) = record { call = c; taken = is_ok r } ∷ happened cs rs

-- what happens when a string of calls is made on a new reader
abbrev pub session : Meaning → List Rule → List Call → List Event
session m rs calls = happened calls (answers m rs Closed calls)

-- whether a call is taken next, after a string of calls on a new reader
abbrev pub takes : Meaning → List Rule → List Call → Call → Bool
takes m rs calls c = is_ok (answer m rs (phase_after m rs Closed calls) c)

-- the rules say the same as the largest safe assignment, wherever it has a setting, and it has one in every start:
-- so do the rules of every draft that was not refused
pub record Faithful (m : Meaning) (rs : List Rule) : Type 0 where
  pub assigned : ℕ → ℕ → Bool
  pub largest : Largest m assigned
  pub starts : (t : ℕ) → m.start t ≡ true → (a : ℕ) × (assigned t a ≡ true)
  pub reads : (s a b : ℕ) → a < settings m → assigned s b ≡ true → fits_there m rs s a ≡ assigned s a

-- every string of calls on a new reader keeps the law; after it the next call is taken exactly when it is permitted,
-- and when poised some setting would be taken
pub record KeepsLaw (m : Meaning) (rs : List Rule) : Type 0 where
  pub lawful : (calls : List Call) → Lawful m (session m rs calls) (phase_after m rs Closed calls)
  pub next : (calls : List Call) (c : Call) → Decides (takes m rs calls c) (Permitted m (told (session m rs calls)) c)
  pub some_taken : (calls : List Call) (s : ℕ) → told (session m rs calls) ≡ Poised s → (a : ℕ) × (takes m rs calls (Set a) ≡ true)
