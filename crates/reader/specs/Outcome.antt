-- What a run over a string of calls answers and leads to. Assumes nothing.
use Rattle.std.specs.Prelude.{◌≡◌, List, length, is_ok, Ok, Err, Decides, Result, ◌≢◌}
use Rattle.plant.specs.Meaning.{Meaning}
use Rattle.rules.specs.declared.Rule.{Rule}
use Rattle.reader.specs.Law.{Lawful, Permitted}
use Rattle.reader.specs.Step.{Answer, answer}
use Rattle.reader.specs.Strings.{Faithful, answers, phase_after, happened}
use Rattle.reader.specs.declared.call.Call.{Call}
use Rattle.reader.specs.declared.phase.Phase.{Phase}
use Rattle.reader.specs.declared.phase.Phase.TheVariants.{Closed}
use Rattle.plant.specs.declared.lent.WrongLength.{WrongLength}

-- every call is answered, and the phase is the one after all of them; on a new reader with faithful rules all of it keeps the law,
-- and the next call is taken exactly when it is permitted
pub record Ran (m : Meaning) (rs : List Rule) (before now_at : Phase) (calls : List Call) (given : List Answer) : Type 0 where
  pub answered : given ≡ answers m rs before calls
  pub phase : now_at ≡ phase_after m rs before calls
  pub law : Faithful m rs → before ≡ Closed → Lawful m (happened calls given) now_at
  pub next : Faithful m rs → before ≡ Closed → (c : Call) → Decides (is_ok (answer m rs now_at c)) (Permitted m now_at c)

-- a wrong number of places is answered with the right one and nothing is changed; else every call is made
pub record Run (m : Meaning) (rs : List Rule) (before now_at : Phase) (calls : List Call) (places given : List Answer) (r : Result (Unit {0}) WrongLength) : Type 0 where
  pub refused : (length places ≢ length calls) → (r ≡ Err (record { needed = length calls })) × (given ≡ places) × (now_at ≡ before)
  pub answer : length places ≡ length calls → r ≡ Ok tt
  pub ran : length places ≡ length calls → Ran m rs before now_at calls given
