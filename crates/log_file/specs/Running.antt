-- What running a log file comes to, as a function of its bytes. Assumes nothing.
use Rattle.std.specs.Prelude.{ℕ, ◌+◌, cond, List, length, Some, None, Ok, Err, Option, Result, ◌==◌, nat_lt, slice_index}
use Rattle.plant.specs.Meaning.{Meaning}
use Rattle.records.specs.Reading.{Record, record_at}
use Rattle.records.specs.Running.{Next, over, onward, run_records}
use Rattle.records.specs.declared.BytesFault.{BytesFault}
use Rattle.records.specs.declared.BytesFault.TheVariants.{Unfinished, AfterEnd}
use Rattle.rules.specs.declared.Rule.{Rule}
use Rattle.reader.specs.Step.{Answer, answer, after}
use Rattle.reader.specs.declared.phase.Phase.{Phase}
use Rattle.log_file.specs.Encoding.{log_kinds, end_code, call_of}
use Rattle.log_file.specs.declared.entry.Made.{Made}
use Rattle.log_file.specs.declared.fault.LogFileFault.{LogFileFault}
use Rattle.log_file.specs.declared.fault.LogFileFault.TheVariants.{Bytes, Refused}

-- the record at an offset, if there is one: the end, after which nothing stands, or a call
abbrev pub entry_found : List ℕ → ℕ → Result Record BytesFault → Result (Option Made) BytesFault
entry_found bytes at (Err f) = Err f
entry_found bytes at (Ok r) =
    cond (r.code == end_code)
    (cond (nat_lt r.end (length bytes)) (Err (AfterEnd r.end)) (Ok None))
    (Ok (Some (record { call = call_of r.code (slice_index bytes (at + 1)); end = r.end })))

abbrev pub entry_at : List ℕ → ℕ → Result (Option Made) BytesFault
entry_at bytes at = entry_found bytes at (record_at bytes log_kinds at)

-- how far a run has come: the phase of the reader, and how many calls were taken
pub record Progress : Type 0 where
  pub phase : Phase
  pub taken : ℕ

-- what a run comes to: the number of calls taken, or why it stopped, and the phase of the reader
pub record Ends : Type 0 where
  pub answer : Result ℕ LogFileFault
  pub phase : Phase

-- a call whose record is at the offset, by its answer
abbrev pub call_made : ℕ → Answer → Result (Unit {0}) LogFileFault
call_made offset (Ok done) = Ok done
call_made offset (Err f) = Err (Refused offset f)

-- how the run goes on: a call that is taken is counted, and one that is turned away ends it
abbrev pub run_answered : Progress → Phase → ℕ → ℕ → Answer → Next Progress Ends
run_answered p next at end (Ok done) = onward (record { phase = next; taken = p.taken + 1 }) end
run_answered p next at end (Err f) = over (record { answer = Err (Refused at f); phase = p.phase })

-- the record at an offset: what is wrong with it, the end, or a call
abbrev pub run_entry : Meaning → List Rule → Progress → ℕ → Result (Option Made) BytesFault → Next Progress Ends
run_entry m rs p at (Err f) = over (record { answer = Err (Bytes f); phase = p.phase })
run_entry m rs p at (Ok None) = over (record { answer = Ok p.taken; phase = p.phase })
run_entry m rs p at (Ok (Some made)) = run_answered p (after m rs p.phase made.call) at made.end (answer m rs p.phase made.call)

-- the run from an offset on; each record takes a byte at least, so as many records as bytes are enough
abbrev pub run_from : Meaning → List Rule → List ℕ → ℕ → Progress → ℕ → Ends
run_from m rs bytes = run_records (λ p at. run_entry m rs p at (entry_at bytes at)) (λ p at. record { answer = Err (Bytes (Unfinished at)); phase = p.phase })

-- the whole run, on a reader in this phase
abbrev pub run_log : Meaning → List Rule → Phase → List ℕ → Ends
run_log m rs phase bytes = run_from m rs bytes (length bytes) (record { phase = phase; taken = 0 }) 0
