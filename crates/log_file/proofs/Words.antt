-- What running a log file comes to, in words. Assumes nothing.
use Rattle.std.proofs.Common.{◌≡◌, ℕ, ◌<◌, ◌≤◌, List, [], ◌∷◌, ◌++◌, length, take, drop, replicate, Some, None, Ok, Err, Option, Result, sym, refl, ap, ◌∙◌, subst, arith}
use Rattle.std.proofs.lemmas.List.{append_assoc, flat_map_more, length-append, length_push, length-take-le, replicate_more, take-append-drop, take_at}
use Rattle.plant.specs.Meaning.{Meaning}
use Rattle.records.specs.Damage.{Damaged}
use Rattle.records.specs.Running.{Next, over, onward}
use Rattle.records.specs.declared.BytesFault.{BytesFault}
use Rattle.records.proofs.Running.{run_keeps}
use Rattle.rules.specs.declared.Rule.{Rule}
use Rattle.reader.specs.Step.{Answer, answer, after}
use Rattle.reader.specs.Strings.{answers, phase_after}
use Rattle.reader.specs.declared.call.Call.{Call}
use Rattle.reader.specs.declared.phase.Phase.{Phase}
use Rattle.reader.proofs.Strings.{answers_push, phase_push}
use Rattle.log_file.specs.Encoding.{log_kinds, end_code, call_bytes, calls_bytes}
use Rattle.log_file.specs.Outcome.{CallThere, EntryInWords, Taken, Over, TurnedAway, RanInWords, Ran}
use Rattle.log_file.specs.Running.{Progress, Ends, entry_at, run_answered, run_entry, run_log}
use Rattle.log_file.specs.declared.entry.Made.{Made}
use Rattle.log_file.specs.declared.fault.LogFileFault.{LogFileFault}
use Rattle.log_file.proofs.Entries.{entry_words}
use Rattle.log_file.proofs.Steps.{call_some, cut, past}
use Rattle.log_file.proofs.Whole.{run_over, run_refused}

-- the bytes below the offset are the records of calls that were all taken
record Come (m : Meaning) (rs : List Rule) (before : Phase) (bytes : List ℕ) (p : Progress) (at : ℕ) : Type 0 where
  pub calls : List Call
  pub begins : take at bytes ≡ calls_bytes calls
  pub inside : at ≤ length bytes
  pub all_taken : answers m rs before calls ≡ replicate (length calls) (Ok tt)
  pub phase : p.phase ≡ phase_after m rs before calls
  pub number : p.taken ≡ length calls

module _ (m : Meaning) (rs : List Rule) (before : Phase) (bytes : List ℕ) where
  -- what the whole comes to
  abbrev Comes : Ends → Type 0
  Comes e = RanInWords m rs before e.phase bytes e.answer

  module _ (p : Progress) (at : ℕ) (come : Come m rs before bytes p at) where
    -- what one record comes to
    abbrev View : Next Progress Ends → Type 0
    View (over e) = Comes e
    View (onward q end) = Come m rs before bytes q end × (at < end)

    offset : at ≡ length (calls_bytes come.calls)
    offset = sym (length-take-le at bytes come.inside) ∙ ap length come.begins

    stopped : (There : List Call → List ℕ → Type 0) → There come.calls (drop at bytes) → Taken m rs before p.phase bytes There
    stopped There t = record {
      calls = come.calls;
      rest = drop at bytes;
      begins = sym (take-append-drop at bytes) ∙ ap (λ xs. xs ++ drop at bytes) come.begins;
      all_taken = come.all_taken;
      phase = come.phase;
      there = t;
    }

    -- a call by its answer
    at_call : (c : Call) (end : ℕ) → CallThere bytes at c end → (x : Answer) → answer m rs p.phase c ≡ x → View (run_answered p (after m rs p.phase c) at end x)
    at_call c end there (Err f) is = stopped (TurnedAway m rs p.phase at f) (offset, (c, drop end bytes, there.stands, is))
    at_call c end there (Ok done) is =
        let some = call_some c in
        let e = there.next in
        let l = length-take-le at bytes come.inside in
        let size = length-append (take at bytes) (call_bytes c) in
        let n = come.number in
        let more = length_push come.calls c in
        let front : take end bytes ≡ take at bytes ++ call_bytes c =
        ap (take end) (sym (take-append-drop at bytes) ∙ ap (λ t. take at bytes ++ t) there.stands ∙ sym (append_assoc (take at bytes) (call_bytes c) (drop end bytes))) ∙
        take_at (take at bytes ++ call_bytes c) (drop end bytes) end (omega arith) in (
          record {
            calls = come.calls ++ (c ∷ []);
            begins = front ∙ ap (λ xs. xs ++ call_bytes c) come.begins ∙ flat_map_more call_bytes [] come.calls c;
            inside = there.within;
            all_taken = answers_push m rs come.calls before c ∙ ap (λ xs. xs ++ (answer m rs (phase_after m rs before come.calls) c ∷ [])) come.all_taken ∙
                ap (λ y. replicate (length come.calls) (Ok tt) ++ (y ∷ [])) (ap (λ q. answer m rs q c) (sym come.phase) ∙ is) ∙
                replicate_more (length come.calls) (Ok tt) ∙ ap (λ k. replicate k (Ok tt)) (sym more);
            phase = ap (λ q. after m rs q c) come.phase ∙ sym (phase_push m rs come.calls before c);
            number = omega arith;
          },
          omega arith,
        )

    at_entry : (x : Result (Option Made) BytesFault) → EntryInWords bytes at x → View (run_entry m rs p at x)
    at_entry (Err f) damage = stopped (λ calls rest. Damaged log_kinds end_code rest (length (calls_bytes calls)) f) (subst (λ o. Damaged log_kinds end_code (drop at bytes) o f) offset damage)
    at_entry (Ok None) end = stopped (Over p.taken) (come.number, end)
    at_entry (Ok (Some made)) there = at_call made.call made.end there (answer m rs p.phase made.call) refl

    view : View (run_entry m rs p at (entry_at bytes at))
    view = at_entry (entry_at bytes at) (entry_words bytes at)

  -- what is computed is what the run comes to
  pub ran_log : Ran m rs before (run_log m rs before bytes).phase bytes (run_log m rs before bytes).answer
  ran_log = record {
    computed = refl;
    phase = refl;
    in_words =
        run_keeps (λ p at. run_entry m rs p at (entry_at bytes at)) (cut m rs bytes) (length bytes) (past m rs bytes)
        (Come m rs before bytes) Comes
        (λ p at e come is. subst (λ x. View p at come x) is (view p at come))
        (λ p at q end come is. subst (λ x. View p at come x) is (view p at come))
        (length bytes) (record { phase = before; taken = 0 }) 0 (omega arith)
        (record { calls = []; begins = refl; inside = omega arith; all_taken = refl; phase = refl; number = refl });
    so_far = record {
      to_the_end = λ calls is all. run_over m rs bytes before calls (end_code ∷ []) is all refl;
      to_a_refusal = λ calls c rest f is all no_call. run_refused m rs bytes before calls (call_bytes c ++ rest) is all c rest f refl no_call;
    };
  }

  -- for an answer and a phase that are those computed
  pub ran : (now_at : Phase) (r : Result ℕ LogFileFault) → record { answer = r; phase = now_at } ≡ run_log m rs before bytes → Ran m rs before now_at bytes r
  ran now_at r is = subst (λ (e : Ends). Ran m rs before e.phase bytes e.answer) (sym is) ran_log
