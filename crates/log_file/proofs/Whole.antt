-- A log of calls is run as far as they are taken. Assumes nothing.
use Rattle.std.proofs.Common.{◌≡◌, ℕ, pred, ◌+◌, ◌≤◌, List, [], ◌∷◌, ◌++◌, length, drop, replicate, Some, None, Ok, Err, Option, Result, sym, refl, ap, ◌∙◌, subst, inl, inr, arith}
use Rattle.std.proofs.lemmas.List.{append_assoc, drop_at, drop-drop, length-append, length-drop}
use Rattle.plant.specs.Meaning.{Meaning}
use Rattle.records.specs.Damage.{Damaged}
use Rattle.records.specs.Reading.{body_length}
use Rattle.records.specs.declared.BytesFault.{BytesFault}
use Rattle.records.specs.declared.BytesFault.TheVariants.{Unfinished, UnknownKind, AfterEnd}
use Rattle.rules.specs.declared.Rule.{Rule}
use Rattle.reader.specs.Step.{answer, after}
use Rattle.reader.specs.Strings.{answers, phase_after}
use Rattle.reader.specs.declared.call.Call.{Call}
use Rattle.reader.specs.declared.call.Call.TheVariants.{Begin, Set, See, Close}
use Rattle.reader.specs.declared.fault.LogFault.{LogFault}
use Rattle.reader.specs.declared.phase.Phase.{Phase}
use Rattle.log_file.specs.Encoding.{begin_code, set_code, see_code, close_code, end_code, log_kinds, call_bytes, calls_bytes}
use Rattle.log_file.specs.Outcome.{EntryInWords}
use Rattle.log_file.specs.Running.{Progress, Ends, entry_at, run_from, run_log}
use Rattle.log_file.specs.declared.entry.Made.{Made}
use Rattle.log_file.specs.declared.fault.LogFileFault.TheVariants.{Refused}
use Rattle.log_file.proofs.Entries.{entry_words}
use Rattle.log_file.proofs.Steps.{at_end, at_refused, at_taken, call_some}

-- a record of a known kind whose body is there
record Sound (bytes : List ℕ) : Type 0 where
  pub code : ℕ
  pub size : ℕ
  pub body : List ℕ
  pub is : bytes ≡ code ∷ body
  pub known : body_length log_kinds code ≡ Some size
  pub enough : size ≤ length body

call_sound : (c : Call) (rest : List ℕ) → Sound (call_bytes c ++ rest)
call_sound (Begin t) rest = record { code = begin_code; size = 1; body = t ∷ rest; is = refl; known = refl; enough = omega arith }
call_sound (Set a) rest = record { code = set_code; size = 1; body = a ∷ rest; is = refl; known = refl; enough = omega arith }
call_sound (See t) rest = record { code = see_code; size = 1; body = t ∷ rest; is = refl; known = refl; enough = omega arith }
call_sound Close rest = record { code = close_code; size = 0; body = rest; is = refl; known = refl; enough = omega arith }

-- the end is no call
not_end : (c : Call) (rest more : List ℕ) → call_bytes c ++ rest ≡ end_code ∷ more → ⊥
not_end c rest more e = grind arith

-- two calls whose records begin the same bytes are the same
same_call : (d c : Call) (xs ys : List ℕ) → call_bytes d ++ xs ≡ call_bytes c ++ ys → d ≡ c
same_call d c xs ys e = grind arith

-- such a record is not damaged, unless it is the end and a byte stands after it
undamaged : (bytes : List ℕ) (o : ℕ) (f : BytesFault) → Sound bytes → ((x : ℕ) (more : List ℕ) → bytes ≡ end_code ∷ (x ∷ more) → ⊥) → Damaged log_kinds end_code bytes o f → ⊥
undamaged bytes o (Unfinished p) s alone (at, inl none) = let e = s.is in grind arith
undamaged bytes o (Unfinished p) s alone (at, inr (code, k, body, is, known, short)) =
    let e = s.is in
    let same = s.known in
    let enough = s.enough in
    grind arith
undamaged bytes o (UnknownKind p) s alone (at, (code, more, is, unknown)) = let e = s.is in let same = s.known in grind arith
undamaged bytes o (AfterEnd p) s alone (at, (x, more, is)) = alone x more is

module _ (bytes : List ℕ) (at : ℕ) where
  -- the record of a call is read as that call
  entry_call : (c : Call) (rest : List ℕ) → drop at bytes ≡ call_bytes c ++ rest → entry_at bytes at ≡ Ok (Some (record { call = c; end = at + length (call_bytes c) }))
  entry_call c rest is = by (entry_at bytes at) refl (entry_words bytes at)
    where
      by : (x : Result (Option Made) BytesFault) → entry_at bytes at ≡ x → EntryInWords bytes at x → entry_at bytes at ≡ Ok (Some (record { call = c; end = at + length (call_bytes c) }))
      by (Ok (Some made)) e w =
          let same = same_call made.call c (drop made.end bytes) rest (sym w.stands ∙ is) in
          e ∙ ap (λ k. Ok (Some (record { call = made.call; end = k }))) w.next ∙ ap (λ x. Ok (Some (record { call = x; end = at + length (call_bytes x) }))) same
      by (Ok None) e w = absurd (not_end c rest [] (sym is ∙ w))
      by (Err f) e w = absurd (undamaged (call_bytes c ++ rest) at f (call_sound c rest) (λ x more e2. not_end c rest (x ∷ more) e2) (subst (λ xs. Damaged log_kinds end_code xs at f) is w))

  entry_end : drop at bytes ≡ end_code ∷ [] → entry_at bytes at ≡ Ok None
  entry_end is = by (entry_at bytes at) refl (entry_words bytes at)
    where
      by : (x : Result (Option Made) BytesFault) → entry_at bytes at ≡ x → EntryInWords bytes at x → entry_at bytes at ≡ Ok None
      by (Ok (Some made)) e w = absurd (not_end made.call (drop made.end bytes) [] (sym w.stands ∙ is))
      by (Ok None) e w = e
      by (Err f) e w =
          absurd (undamaged (end_code ∷ []) at f (record { code = end_code; size = 0; body = []; is = refl; known = refl; enough = omega arith })
          (λ x more e2. let z : ◌≡◌ {A = ℕ} 0 1 = cc in omega arith) (subst (λ xs. Damaged log_kinds end_code xs at f) is w))

module _ (m : Meaning) (rs : List Rule) (bytes : List ℕ) where
  -- where calls that are all taken have been run
  record RunOn (f : ℕ) (p : Progress) (at : ℕ) (cs : List Call) (rest : List ℕ) : Type 0 where
    pub left : ℕ
    pub end : ℕ
    pub is_end : end ≡ at + length (calls_bytes cs)
    pub enough : length bytes ≤ end + left
    pub stands : drop end bytes ≡ rest
    pub runs : run_from m rs bytes f p at ≡ run_from m rs bytes left (record { phase = phase_after m rs p.phase cs; taken = p.taken + length cs }) end

  run_on : (cs : List Call) (f : ℕ) (p : Progress) (at : ℕ) (rest : List ℕ) → length bytes ≤ at + f → at ≤ length bytes → drop at bytes ≡ calls_bytes cs ++ rest → answers m rs p.phase cs ≡ replicate (length cs) (Ok tt) → RunOn f p at cs rest
  run_on [] f p at rest enough inside is all =
      record { left = f; end = at; is_end = omega arith; enough = enough; stands = is; runs = ap (λ k. run_from m rs bytes f (record { phase = p.phase; taken = k }) at) (let e : p.taken ≡ p.taken + 0 = omega arith in e) }
  run_on (c ∷ cs) f p at rest enough inside is all =
      let next : drop at bytes ≡ call_bytes c ++ (calls_bytes cs ++ rest) = is ∙ append_assoc (call_bytes c) (calls_bytes cs) rest in
      let first : answer m rs p.phase c ≡ Ok tt = cc in
      let others : answers m rs (after m rs p.phase c) cs ≡ replicate (length cs) (Ok tt) = cc in
      let end = at + length (call_bytes c) in
      let l = ap length next ∙ length-append (call_bytes c) (calls_bytes cs ++ rest) in
      let d = length-drop at bytes in
      let q : Progress = record { phase = after m rs p.phase c; taken = p.taken + 1 } in
      let some = call_some c in
      let there : drop end bytes ≡ calls_bytes cs ++ rest = sym (drop-drop (length (call_bytes c)) at bytes) ∙ ap (drop (length (call_bytes c))) next ∙ drop_at (call_bytes c) (calls_bytes cs ++ rest) (length (call_bytes c)) refl in
      let w = run_on cs (pred f) q end rest (omega arith) (omega arith) there others in
      let size = length-append (call_bytes c) (calls_bytes cs) in
      let at_end_of_all = w.is_end in
      record {
        left = w.left;
        end = w.end;
        is_end = omega arith;
        enough = w.enough;
        stands = w.stands;
        runs = at_taken m rs bytes f p at enough c end (entry_call bytes at c (calls_bytes cs ++ rest) next) first ∙ w.runs ∙
            ap (λ k. run_from m rs bytes w.left (record { phase = phase_after m rs (after m rs p.phase c) cs; taken = k }) w.end) (let e : p.taken + 1 + length cs ≡ p.taken + length (c ∷ cs) = omega arith in e);
      }

  module _ (before : Phase) (cs : List Call) (rest : List ℕ) (is : bytes ≡ calls_bytes cs ++ rest) (all : answers m rs before cs ≡ replicate (length cs) (Ok tt)) where
    whole : RunOn (length bytes) (record { phase = before; taken = 0 }) 0 cs rest
    whole = run_on cs (length bytes) (record { phase = before; taken = 0 }) 0 rest (omega arith) (omega arith) is all

    pub run_over : rest ≡ end_code ∷ [] → (run_log m rs before bytes).answer ≡ Ok (length cs)
    run_over end =
        let w = whole in
        ap (λ (e : Ends). e.answer) (w.runs ∙ at_end m rs bytes w.left _ w.end w.enough (entry_end bytes w.end (w.stands ∙ end))) ∙ ap Ok (let e : 0 + length cs ≡ length cs = omega arith in e)

    pub run_refused : (c : Call) (more : List ℕ) (f : LogFault) → rest ≡ call_bytes c ++ more → answer m rs (phase_after m rs before cs) c ≡ Err f → (run_log m rs before bytes).answer ≡ Err (Refused (length (calls_bytes cs)) f)
    run_refused c more f next no_call =
        let w = whole in
        let at = w.is_end in
        ap (λ (e : Ends). e.answer) (w.runs ∙ at_refused m rs bytes w.left _ w.end w.enough c _ (entry_call bytes w.end c more (w.stands ∙ next)) f no_call) ∙
        ap (λ k. Err (Refused k f)) (let e : w.end ≡ length (calls_bytes cs) = omega arith in e)
