-- The first bytes of an input decide how it is judged. Assumes nothing.
use Rattle.std.proofs.Common.{◌≡◌, ℕ, zero, suc, ◌+◌, ◌-◌, ◌*◌, ◌<◌, ◌≤◌, Bool, true, false, cond, eqb, ltb, leb, List, length, take, IfSome, Some, None, Ok, Err, Option, Result, sym, refl, ap, ◌∙◌, ap₂, ⊎_elim, arith}
use Rattle.std.proofs.lemmas.List.{get_or-take, length-take-le, take_all}
use Rattle.std.proofs.lemmas.Bool.{cases_lt, cond_both, cond-false, cond-true, le-ltb, leb-false, lt-ltb}
use Rattle.records.specs.Reading.{body_length, record_at, whole_record}
use Rattle.records.specs.declared.BytesFault.{BytesFault}
use Rattle.records.specs.declared.BytesFault.TheVariants.{UnknownKind}
use Rattle.records.specs.Reading.{Record}
use Rattle.plan.specs.Items.{byte, mask_at, condition_at, clause_at, item_fits}
use Rattle.plan.specs.Judging.{Seen, plan_kinds, most_clauses, kept, judge_record, go_on, judge_found, judge_from, judge_head, judge, none_yet}
use Rattle.plan.specs.Machine.{Parts}
use Rattle.plan.specs.declared.fault.PlanFault.{PlanFault}
use Rattle.plan.specs.declared.fault.PlanFault.TheVariants.{HeadMisplaced, TooManyClauses, Malformed}
use Rattle.sheet_call.specs.Room.{input_needed}

-- a body of a plan has ten bytes at most
Short : Option ℕ → Type 0
Short o = IfSome o (λ n. n ≤ 10)

short_body : (code : ℕ) → Short (body_length plan_kinds code)
unfolding Short
short_body code =
    cond_both (eqb 1 code) _ _ Short (λ e. omega arith) (λ e₁.
    cond_both (eqb 2 code) _ _ Short (λ e. omega arith) (λ e₂.
    cond_both (eqb 3 code) _ _ Short (λ e. omega arith) (λ e₃.
    cond_both (eqb 4 code) _ _ Short (λ e. omega arith) (λ e₄.
    cond_both (eqb 5 code) _ _ Short (λ e. omega arith) (λ e₅.
    cond_both (eqb 15 code) _ _ Short (λ e. omega arith) (λ e₆. tt))))))

-- a record in the midst of a long input: its kind is known, and its body is there
whole : ℕ → ℕ → Option ℕ → Result Record BytesFault
whole at code None = Err (UnknownKind at)
whole at code (Some n) = Ok (record { offset = at; code = code; end = at + 1 + n })

-- so far into the input no record begins
abbrev far : ℕ
far = 1070

in_the_midst : (bs : List ℕ) → input_needed ≤ length bs → (at code : ℕ) → at ≤ far → (o : Option ℕ) → Short o → whole_record bs at code o ≡ whole at code o
unfolding Short whole
in_the_midst bs long at code near None short = refl
in_the_midst bs long at code near (Some n) short = cond-false (ltb (length bs - at - 1) n) _ _ (le-ltb _ _ (omega arith))

record_there : (bs : List ℕ) → input_needed ≤ length bs → (at : ℕ) → at ≤ far → record_at bs plan_kinds at ≡ whole at (byte bs at) (body_length plan_kinds (byte bs at))
record_there bs long at near =
    cond-true (ltb at (length bs)) _ _ (lt-ltb _ _ (omega arith))
    ∙ in_the_midst bs long at (byte bs at) near (body_length plan_kinds (byte bs at)) (short_body (byte bs at))

-- what comes after a record is the same where it is the same after a clause
go_on_same : (later later' : Seen → ℕ → Result Parts PlanFault) (end : ℕ) (head many fit : Bool) (e₁ e₂ e₃ : PlanFault) (t : Seen) → (many ≡ false → later t end ≡ later' t end) →
    go_on later end (cond head (Err e₁) (cond many (Err e₂) (cond fit (Ok t) (Err e₃)))) ≡ go_on later' end (cond head (Err e₁) (cond many (Err e₂) (cond fit (Ok t) (Err e₃))))
go_on_same later later' end true many fit e₁ e₂ e₃ t same = refl
go_on_same later later' end false true fit e₁ e₂ e₃ t same = refl
go_on_same later later' end false false true e₁ e₂ e₃ t same = same refl
go_on_same later later' end false false false e₁ e₂ e₃ t same = refl

module _ (bs cs : List ℕ) (long : input_needed ≤ length bs) (long' : input_needed ≤ length cs) (same : (k : ℕ) → k < input_needed → byte bs k ≡ byte cs k) where
  mask_same : (i : ℕ) → i ≤ 1080 → mask_at bs i ≡ mask_at cs i
  mask_same i near =
      let a = same i (omega arith) in
      let b = same (i + 1) (omega arith) in
      let c = same (i + 2) (omega arith) in
      let d = same (i + 3) (omega arith) in
      cc

  condition_same : (i : ℕ) → i ≤ 1075 → condition_at bs i ≡ condition_at cs i
  condition_same i near = ap₂ (λ x y. record { ones = x; zeros = y }) (mask_same i (omega arith)) (mask_same (i + 4) (omega arith))

  clause_same : (o code : ℕ) → o ≤ far → clause_at bs o code ≡ clause_at cs o code
  clause_same o code near =
      let letter = same (o + 1) (omega arith) in
      let value = same (o + 2) (omega arith) in
      let ban = condition_same (o + 1) (omega arith) in
      let condition = condition_same (o + 3) (omega arith) in
      cc

  item_same : (b n m o code : ℕ) → o ≤ far → item_fits b n m bs o code ≡ item_fits b n m cs o code
  item_same b n m o code near =
      let letter = same (o + 1) (omega arith) in
      let value = same (o + 2) (omega arith) in
      let clause = clause_same o code near in
      cc

  judge_record_same : (s : Seen) (o code : ℕ) → o ≤ far → judge_record bs s o code ≡ judge_record cs s o code
  judge_record_same s o code near =
      let clause = clause_same o code near in
      let item = item_same s.parts.bits s.parts.lines s.parts.auxiliaries o code near in
      cc

  -- the record at an offset, and what comes after it
  found_same : (f g : ℕ) (s : Seen) (at code : ℕ) → at ≤ far → ((t : Seen) (end : ℕ) → t.count ≡ s.count + 1 → s.count < most_clauses → end ≤ at + 11 → judge_from f bs t end ≡ judge_from g cs t end) → (o : Option ℕ) → Short o →
      judge_found (λ t end. judge_from f bs t end) bs s (whole at code o) ≡ judge_found (λ t end. judge_from g cs t end) cs s (whole at code o)
  unfolding Short whole
  found_same f g s at code near later None short = refl
  found_same f g s at code near later (Some n) short =
      ap₂ (λ x y. cond (eqb code 15) x y)
      (cond-true (ltb (at + 1 + n) (length bs)) _ _ (lt-ltb _ _ (omega arith)) ∙ sym (cond-true (ltb (at + 1 + n) (length cs)) _ _ (lt-ltb _ _ (omega arith))))
      (go_on_same (λ t end. judge_from f bs t end) (λ t end. judge_from g cs t end) (at + 1 + n) (eqb code 1) (leb most_clauses s.count)
      (item_fits s.parts.bits s.parts.lines s.parts.auxiliaries bs at code) (HeadMisplaced at) (TooManyClauses at) (Malformed at) (kept s at code (clause_at bs at code))
      (λ few. later (kept s at code (clause_at bs at code)) (at + 1 + n) refl (leb-false most_clauses s.count few) (omega arith))
      ∙ ap (λ x. go_on (λ t end. judge_from g cs t end) (at + 1 + n) x) (judge_record_same s at code near))

  -- a record is at most eleven bytes long, and there are few
  judge_from_same : (f g : ℕ) (s : Seen) (at : ℕ) → s.count ≤ most_clauses → at ≤ 11 * s.count + 11 → suc most_clauses ≤ f + s.count → suc most_clauses ≤ g + s.count → judge_from f bs s at ≡ judge_from g cs s at
  judge_from_same zero g s at few near more more' = absurd (omega arith)
  judge_from_same (suc f) zero s at few near more more' = absurd (omega arith)
  judge_from_same (suc f) (suc g) s at few near more more' =
      ap (λ x. judge_found (λ t end. judge_from f bs t end) bs s x) (record_there bs long at (omega arith))
      ∙ found_same f g s at (byte bs at) (omega arith)
      (λ t end one less short. judge_from_same f g t end (omega arith) (omega arith) (omega arith) (omega arith))
      (body_length plan_kinds (byte bs at)) (short_body (byte bs at))
      ∙ ap (λ code. judge_found (λ t end. judge_from g cs t end) cs s (whole at code (body_length plan_kinds code))) (same at (omega arith))
      ∙ sym (ap (λ x. judge_found (λ t end. judge_from g cs t end) cs s x) (record_there cs long' at (omega arith)))

  head_same : (code : ℕ) (o : Option ℕ) → Short o → judge_head bs (whole 0 code o) ≡ judge_head cs (whole 0 code o)
  unfolding Short whole
  head_same code None short = refl
  head_same code (Some n) short =
      let b = same 1 (omega arith) in
      let l = same 2 (omega arith) in
      let m = same 3 (omega arith) in
      let rest : judge_from (length bs) bs (none_yet (byte bs 1) (byte bs 2) (byte bs 3)) (0 + 1 + n) ≡ judge_from (length cs) cs (none_yet (byte bs 1) (byte bs 2) (byte bs 3)) (0 + 1 + n) =
      judge_from_same (length bs) (length cs) (none_yet (byte bs 1) (byte bs 2) (byte bs 3)) (0 + 1 + n) (omega arith) (omega arith) (omega arith) (omega arith) in
      cc

  judge_same : judge bs ≡ judge cs
  judge_same =
      ap (judge_head bs) (record_there bs long 0 (omega arith))
      ∙ head_same (byte bs 0) (body_length plan_kinds (byte bs 0)) (short_body (byte bs 0))
      ∙ ap (λ code. judge_head cs (whole 0 code (body_length plan_kinds code))) (same 0 (omega arith))
      ∙ sym (ap (judge_head cs) (record_there cs long' 0 (omega arith)))

-- what stands after the first bytes does not matter
pub front_decides : (bytes : List ℕ) → judge (take input_needed bytes) ≡ judge bytes
front_decides bytes =
    ⊎_elim
    (λ short. ap judge (take_all input_needed bytes (omega arith)))
    (λ long.
    let size = length-take-le input_needed bytes long in
    judge_same (take input_needed bytes) bytes (omega arith) long (λ k lt. get_or-take input_needed bytes k 0 lt))
    (cases_lt (length bytes) input_needed)
