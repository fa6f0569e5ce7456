-- Running a log file, one record at a time. Assumes nothing.
use Rattle.std.proofs.Common.{◌≡◌, ℕ, pred, ◌+◌, ◌-◌, ◌≤◌, cond, List, length, is_ok, Some, None, Ok, Err, Result, ap, ◌∙◌, arith}
use Rattle.plant.specs.Meaning.{Meaning}
use Rattle.records.specs.Running.{Next, over}
use Rattle.records.specs.declared.BytesFault.{BytesFault}
use Rattle.records.specs.declared.BytesFault.TheVariants.{Unfinished}
use Rattle.records.proofs.Finding.{none_there}
use Rattle.records.proofs.Running.{over_here, onward_here}
use Rattle.rules.specs.declared.Rule.{Rule}
use Rattle.reader.specs.Law.{tells}
use Rattle.reader.specs.Step.{Answer, answer, after}
use Rattle.reader.specs.declared.call.Call.{Call}
use Rattle.reader.specs.declared.fault.LogFault.{LogFault}
use Rattle.reader.specs.declared.phase.Phase.{Phase}
use Rattle.reader.proofs.Steps.{agrees}
use Rattle.log_file.specs.Encoding.{log_kinds, call_bytes}
use Rattle.log_file.specs.Running.{Progress, Ends, call_made, entry_found, entry_at, run_answered, run_entry, run_from}
use Rattle.log_file.specs.declared.fault.LogFileFault.{LogFileFault}
use Rattle.log_file.specs.declared.fault.LogFileFault.TheVariants.{Bytes, Refused}

-- every record takes a byte at least
pub call_some : (c : Call) → 1 ≤ length (call_bytes c)
call_some c = grind arith

-- a record fewer for each call taken is enough, since each took a byte
pub enough_left : (n at taken : ℕ) → taken ≤ at → n ≤ at + (n - taken)
enough_left n at taken few = omega arith

module _ (m : Meaning) (rs : List Rule) (bytes : List ℕ) where
  abbrev step : Progress → ℕ → Next Progress Ends
  step p at = run_entry m rs p at (entry_at bytes at)

  abbrev pub cut : Progress → ℕ → Ends
  cut p at = record { answer = Err (Bytes (Unfinished at)); phase = p.phase }

  pub past : (p : Progress) (at : ℕ) → length bytes ≤ at → step p at ≡ over (cut p at)
  past p at beyond = ap (λ x. run_entry m rs p at (entry_found bytes at x)) (none_there bytes log_kinds at beyond)

  module _ (f : ℕ) (p : Progress) (at : ℕ) (enough : length bytes ≤ at + f) where
    pub at_fault : (e : BytesFault) → entry_at bytes at ≡ Err e → run_from m rs bytes f p at ≡ record { answer = Err (Bytes e); phase = p.phase }
    at_fault e is = over_here step cut (length bytes) past f p at _ enough (ap (run_entry m rs p at) is)

    pub at_end : entry_at bytes at ≡ Ok None → run_from m rs bytes f p at ≡ record { answer = Ok p.taken; phase = p.phase }
    at_end is = over_here step cut (length bytes) past f p at _ enough (ap (run_entry m rs p at) is)

    module _ (c : Call) (end : ℕ) (is : entry_at bytes at ≡ Ok (Some (record { call = c; end = end }))) where
      pub at_refused : (e : LogFault) → answer m rs p.phase c ≡ Err e → run_from m rs bytes f p at ≡ record { answer = Err (Refused at e); phase = p.phase }
      at_refused e no_call = over_here step cut (length bytes) past f p at _ enough (ap (run_entry m rs p at) is ∙ ap (run_answered p (after m rs p.phase c) at end) no_call)

      pub at_taken : answer m rs p.phase c ≡ Ok tt → run_from m rs bytes f p at ≡ run_from m rs bytes (pred f) (record { phase = after m rs p.phase c; taken = p.taken + 1 }) end
      at_taken taken = onward_here step cut (length bytes) past f p at _ end enough (ap (run_entry m rs p at) is ∙ ap (run_answered p (after m rs p.phase c) at end) taken)

-- what the answer to a call was, by how it was passed on
pub made_err : (offset : ℕ) (a : Answer) (x : LogFileFault) → ◌≡◌ {A = Result (Unit {0}) LogFileFault} (Err x) (call_made offset a) → (e : LogFault) × (a ≡ Err e) × (x ≡ Refused offset e)
made_err offset a x is = grind arith

pub made_ok : (offset : ℕ) (a : Answer) → ◌≡◌ {A = Result (Unit {0}) LogFileFault} (Ok tt) (call_made offset a) → a ≡ Ok tt
made_ok offset a is = grind arith

-- a call that is turned away leaves the phase
pub left_alone : (m : Meaning) (rs : List Rule) (p : Phase) (c : Call) (e : LogFault) → answer m rs p c ≡ Err e → after m rs p c ≡ p
left_alone m rs p c e no_call = agrees m rs p c ∙ ap (λ x. cond (is_ok x) (tells p c) p) no_call
