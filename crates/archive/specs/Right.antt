-- A verdict is right, in words of the machine: phases, starts, followings, safe settings and lasting sets. Assumes nothing.
use Rattle.std.specs.Prelude.{◌≡◌, ℕ, List, [], ◌∷◌, ◌++◌, length, Ok, Err, Result}
use Rattle.plant.specs.Meaning.{Meaning}
use Rattle.records.specs.Damage.{Damaged}
use Rattle.reader.specs.Law.{Permitted, told_from}
use Rattle.reader.specs.declared.call.Call.{Call}
use Rattle.reader.specs.declared.call.Call.TheVariants.{Set}
use Rattle.reader.specs.declared.phase.Phase.{Phase}
use Rattle.reader.specs.declared.phase.Phase.TheVariants.{Closed, Poised}
use Rattle.log_file.specs.Encoding.{log_kinds, end_code, call_bytes, calls_bytes}
use Rattle.log_file.specs.declared.fault.LogFileFault.{LogFileFault}
use Rattle.log_file.specs.declared.fault.LogFileFault.TheVariants.{Bytes, Refused}

-- each call was permitted after the calls before it, the first on a closed reader
abbrev pub AllPermitted : Meaning → List Call → Type 0
AllPermitted m calls = (front back : List Call) (c : Call) → calls ≡ front ++ (c ∷ back) → Permitted m (told_from Closed front) c

-- why the log goes no further than the calls taken: it is over, the next call is not permitted, or the bytes are damaged there
abbrev pub GoesNoFurther : Meaning → Phase → List Call → List ℕ → Result ℕ LogFileFault → Type 0
GoesNoFurther m phase calls rest (Ok n) = (n ≡ length calls) × (rest ≡ end_code ∷ [])
GoesNoFurther m phase calls rest (Err (Refused offset f)) = (offset ≡ length (calls_bytes calls)) × ((c : Call) × (more : List ℕ) × (rest ≡ call_bytes c ++ more) × (Permitted m phase c → ⊥))
GoesNoFurther m phase calls rest (Err (Bytes f)) = Damaged log_kinds end_code rest (length (calls_bytes calls)) f

-- the log begins with calls that were permitted one after another, and tell the phase; the outcome says why it goes no further;
-- and when a setting is due, some setting is permitted
pub record Right (m : Meaning) (log : List ℕ) (outcome : Result ℕ LogFileFault) (phase : Phase) : Type 0 where
  pub calls : List Call
  pub rest : List ℕ
  pub begins : log ≡ calls_bytes calls ++ rest
  pub permitted : AllPermitted m calls
  pub phase_told : phase ≡ told_from Closed calls
  pub no_further : GoesNoFurther m phase calls rest outcome
  pub some_setting : (s : ℕ) → phase ≡ Poised s → (a : ℕ) × Permitted m phase (Set a)
