-- What a record of a log file is, and what running a log file answers and leads to, in words. Assumes nothing.
use Rattle.std.specs.Prelude.{◌≡◌, ℕ, ◌+◌, ◌≤◌, List, [], ◌∷◌, ◌++◌, length, drop, replicate, Some, None, Ok, Err, Option, Result}
use Rattle.plant.specs.Meaning.{Meaning}
use Rattle.records.specs.Damage.{Damaged}
use Rattle.records.specs.declared.BytesFault.{BytesFault}
use Rattle.rules.specs.declared.Rule.{Rule}
use Rattle.reader.specs.Step.{answer}
use Rattle.reader.specs.Strings.{answers, phase_after}
use Rattle.reader.specs.declared.call.Call.{Call}
use Rattle.reader.specs.declared.fault.LogFault.{LogFault}
use Rattle.reader.specs.declared.phase.Phase.{Phase}
use Rattle.log_file.specs.Encoding.{log_kinds, end_code, call_bytes, calls_bytes, log_bytes}
use Rattle.log_file.specs.Running.{run_log}
use Rattle.log_file.specs.declared.entry.Made.{Made}
use Rattle.log_file.specs.declared.fault.LogFileFault.{LogFileFault}
use Rattle.log_file.specs.declared.fault.LogFileFault.TheVariants.{Bytes, Refused}

-- the record of the call stands at the offset, and the next begins at `end`
pub record CallThere (bytes : List ℕ) (offset : ℕ) (c : Call) (end : ℕ) : Type 0 where
  pub stands : drop offset bytes ≡ call_bytes c ++ drop end bytes
  pub next : end ≡ offset + length (call_bytes c)
  pub within : end ≤ length bytes

-- what stands at an offset: a call, the end and nothing after it, or damage
abbrev pub EntryInWords : List ℕ → ℕ → Result (Option Made) BytesFault → Type 0
EntryInWords bytes offset (Ok (Some made)) = CallThere bytes offset made.call made.end
EntryInWords bytes offset (Ok None) = drop offset bytes ≡ end_code ∷ []
EntryInWords bytes offset (Err f) = Damaged log_kinds end_code (drop offset bytes) offset f

-- the bytes begin with calls that are all taken, one after another, and the reader is in the phase after them;
-- `There` says what stands after them
pub record Taken (m : Meaning) (rs : List Rule) (before now_at : Phase) (bytes : List ℕ) (There : List Call → List ℕ → Type 0) : Type 0 where
  pub calls : List Call
  pub rest : List ℕ
  pub begins : bytes ≡ calls_bytes calls ++ rest
  pub all_taken : answers m rs before calls ≡ replicate (length calls) (Ok tt)
  pub phase : now_at ≡ phase_after m rs before calls
  pub there : There calls rest

-- after the n calls taken stands the end record, and nothing more: the bytes are the log file of these calls
abbrev pub Over : ℕ → List Call → List ℕ → Type 0
Over n calls rest = (n ≡ length calls) × (rest ≡ end_code ∷ [])

-- after the calls taken stands, at the offset, one that is answered with the fault
abbrev pub TurnedAway : Meaning → List Rule → Phase → ℕ → LogFault → List Call → List ℕ → Type 0
TurnedAway m rs now_at offset f calls rest =
    (offset ≡ length (calls_bytes calls)) × ((c : Call) × (more : List ℕ) × (rest ≡ call_bytes c ++ more) × (answer m rs now_at c ≡ Err f))

-- the answer of a run, and the phase of the reader before and after
abbrev pub RanInWords : Meaning → List Rule → Phase → Phase → List ℕ → Result ℕ LogFileFault → Type 0
RanInWords m rs before now_at bytes (Ok n) = Taken m rs before now_at bytes (Over n)
RanInWords m rs before now_at bytes (Err (Refused offset f)) = Taken m rs before now_at bytes (TurnedAway m rs now_at offset f)
RanInWords m rs before now_at bytes (Err (Bytes f)) = Taken m rs before now_at bytes (λ calls rest. Damaged log_kinds end_code rest (length (calls_bytes calls)) f)

-- every log goes as far as its calls are taken: to its end, or to the first call that is turned away
pub record GoesSoFar (m : Meaning) (rs : List Rule) (before : Phase) (bytes : List ℕ) (r : Result ℕ LogFileFault) : Type 0 where
  pub to_the_end : (calls : List Call) → bytes ≡ log_bytes calls → answers m rs before calls ≡ replicate (length calls) (Ok tt) → r ≡ Ok (length calls)
  pub to_a_refusal : (calls : List Call) (c : Call) (rest : List ℕ) (f : LogFault) → bytes ≡ calls_bytes calls ++ (call_bytes c ++ rest) → answers m rs before calls ≡ replicate (length calls) (Ok tt) → answer m rs (phase_after m rs before calls) c ≡ Err f → r ≡ Err (Refused (length (calls_bytes calls)) f)

-- the answer and the phase after, as computed from the bytes, and in words
pub record Ran (m : Meaning) (rs : List Rule) (before now_at : Phase) (bytes : List ℕ) (r : Result ℕ LogFileFault) : Type 0 where
  pub computed : r ≡ (run_log m rs before bytes).answer
  pub phase : now_at ≡ (run_log m rs before bytes).phase
  pub in_words : RanInWords m rs before now_at bytes r
  pub so_far : GoesSoFar m rs before bytes r
