-- Judging a file, one record at a time. Assumes nothing.
use Rattle.std.proofs.Common.{◌≡◌, ℕ, zero, suc, pred, ◌+◌, ◌≤◌, Bool, cond, eqb, ◌⊎◌, List, length, Some, Ok, Err, Result, sym, refl, ap, ◌∙◌, arith}
use Rattle.std.proofs.lemmas.Bool.{cond-true, cond-false, eq-eqb, ne_eqb}
use Rattle.std.proofs.lemmas.Bool.Decides.{nat_tests}
use Rattle.records.proofs.Finding.{none_there}
use Rattle.records.specs.Reading.{Record, body_length, record_at}
use Rattle.records.specs.declared.BytesFault.{BytesFault}
use Rattle.plan.specs.Judging.{Seen, plan_kinds, judge_record, judge_end, judge_found, judge_from, go_on}
use Rattle.plan.specs.Machine.{Parts}
use Rattle.plan.specs.declared.fault.PlanFault.{PlanFault}
use Rattle.plan.specs.Kept.{Fails}
use Rattle.plan.specs.declared.fault.PlanFault.TheVariants.{Bytes, HeadMisplaced, SizeLimits, TooManyClauses, Malformed, Loop, Clash, Memory}

-- the kinds of a plan's records
pub sort_of : (code n : ℕ) → body_length plan_kinds code ≡ Some n → (code ≡ 15) ⊎ ((1 ≤ code) × (code ≤ 5))
sort_of code n e = grind (arith, nat_tests)

module _ (bs : List ℕ) (at : ℕ) where
  -- with enough steps, a step can be taken
  pub unrolled : (f : ℕ) (s : Seen) → length bs ≤ at + f → judge_from f bs s at ≡ judge_found (λ t end. judge_from (pred f) bs t end) bs s (record_at bs plan_kinds at)
  unrolled zero s enough = sym (ap (judge_found (λ t end. judge_from (pred zero) bs t end) bs s) (none_there bs plan_kinds at (omega arith)))
  unrolled (suc f) s enough = refl

  module _ (f : ℕ) (s : Seen) (enough : length bs ≤ at + f) where
    pub at_fault : (e : BytesFault) → record_at bs plan_kinds at ≡ Err e → judge_from f bs s at ≡ Err (Bytes e)
    at_fault e is = unrolled f s enough ∙ ap (judge_found (λ t end. judge_from (pred f) bs t end) bs s) is

    at_record : (r : Record) → record_at bs plan_kinds at ≡ Ok r → judge_from f bs s at ≡ cond (eqb r.code 15) (judge_end bs s r.end) (go_on (λ t end. judge_from (pred f) bs t end) r.end (judge_record bs s r.offset r.code))
    at_record r is = unrolled f s enough ∙ ap (judge_found (λ t end. judge_from (pred f) bs t end) bs s) is

    pub at_end : (r : Record) → record_at bs plan_kinds at ≡ Ok r → r.code ≡ 15 → judge_from f bs s at ≡ judge_end bs s r.end
    at_end r is end = at_record r is ∙ cond-true (eqb r.code 15) _ _ (eq-eqb r.code 15 end)

    at_other : (r : Record) → record_at bs plan_kinds at ≡ Ok r → (r.code ≡ 15 → ⊥) → judge_from f bs s at ≡ go_on (λ t end. judge_from (pred f) bs t end) r.end (judge_record bs s r.offset r.code)
    at_other r is other = at_record r is ∙ cond-false (eqb r.code 15) _ _ (ne_eqb r.code 15 other)

    pub at_refused : (r : Record) → record_at bs plan_kinds at ≡ Ok r → (r.code ≡ 15 → ⊥) → (e : PlanFault) → judge_record bs s r.offset r.code ≡ Err e → judge_from f bs s at ≡ Err e
    at_refused r is other e refused = at_other r is other ∙ ap (go_on (λ t end. judge_from (pred f) bs t end) r.end) refused

    pub at_more : (r : Record) → record_at bs plan_kinds at ≡ Ok r → (r.code ≡ 15 → ⊥) → (t : Seen) → judge_record bs s r.offset r.code ≡ Ok t → judge_from f bs s at ≡ judge_from (pred f) bs t r.end
    at_more r is other t ok = at_other r is other ∙ ap (go_on (λ u end. judge_from (pred f) bs u end) r.end) ok

-- a fault of one step is the fault of the whole
pub fails_through : {X Y : Type 0} (a : Result X PlanFault) (b : Result Y PlanFault) → ((e : PlanFault) → a ≡ Err e → b ≡ Err e) → (e : PlanFault) → Fails a e → Fails b e
fails_through a b through (Bytes f) h = through (Bytes f) h
fails_through a b through (HeadMisplaced o) h = through (HeadMisplaced o) h
fails_through a b through SizeLimits h = through SizeLimits h
fails_through a b through (TooManyClauses o) h = through (TooManyClauses o) h
fails_through a b through (Malformed o) h = through (Malformed o) h
fails_through a b through (Loop l) h = through (Loop l) h
fails_through a b through (Clash o) h = through (Clash o) h
fails_through a b through Memory h = tt

-- what the test for a byte after the end gives, and what it gives to the whole
pub end_fault : (b : Bool) (x e : BytesFault) (w : Result Parts PlanFault) → ◌≡◌ {A = Result (Unit {0}) BytesFault} (Err e) (cond b (Err x) (Ok tt)) → cond b (Err (Bytes x)) w ≡ Err (Bytes e)
end_fault b x e w is = grind arith

pub end_passes : (b : Bool) (x : BytesFault) (w : Result Parts PlanFault) → ◌≡◌ {A = Result (Unit {0}) BytesFault} (Ok tt) (cond b (Err x) (Ok tt)) → cond b (Err (Bytes x)) w ≡ w
end_passes b x w is = grind arith
