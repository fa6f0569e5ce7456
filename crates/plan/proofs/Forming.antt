-- An admitted plan is well-formed, has no loop and no clash. Assumes nothing.
use Rattle.std.proofs.Common.{◌≡◌, ℕ, zero, suc, ◌+◌, ◌^◌, ◌<◌, ◌≤◌, Bool, true, false, cond, eqb, ltb, leb, ◌⊎◌, List, [], ◌∷◌, ◌++◌, length, Some, None, Ok, Err, Option, Result, sym, refl, ap, ◌∙◌, subst, inl, inr, ⊎_elim}
use mathlib.Core.List.Memᴰ
use mathlib.Core.List.{Memᴰ}
use Rattle.std.proofs.lemmas.Bool.{and_parts, eqb-true, leb-true, ltb-true}
use Rattle.records.specs.Reading.{Record, record_at}
use Rattle.records.specs.declared.BytesFault.{BytesFault}
use Rattle.records.specs.declared.BytesFault.TheVariants.{Unfinished, AfterEnd}
use Rattle.plant.specs.declared.condition.Condition.{Condition}
use Rattle.plan.specs.Formed.{WellFormed, WithinLetters, letters}
use Rattle.plan.specs.Items.{always, clause_at, item_fits}
use Rattle.plan.specs.Judging.{Seen, plan_kinds, with_clause, kept, judge_clash, judge_end, judge_found, judge_from, judge_loop, judge_record, judge_whole, go_on, most_clauses}
use Rattle.plan.specs.Loops.{first_loop}
use Rattle.plan.specs.Machine.{Parts}
use Rattle.plan.specs.declared.clause.Clause.{Clause}
use Rattle.plan.specs.declared.fault.PlanFault.{PlanFault}
use Rattle.plan.specs.declared.fault.PlanFault.TheVariants.{Bytes, HeadMisplaced, TooManyClauses, Malformed, Loop, Clash}
use Rattle.records.proofs.Finding.{err_ok}

-- what is in a list that may have one element more
pub one_more : {X : Type 0} (b : Bool) (xs : List X) (y : X) {x : X} → Memᴰ x (cond b (xs ++ (y ∷ [])) xs) → ((b ≡ true) × (x ≡ y)) ⊎ Memᴰ x xs
one_more true xs y here = ⊎_elim inr (λ last. inl (refl, Memᴰ.eq_of_singleton last)) (Memᴰ.append_cases xs here)
one_more false xs y here = inr here

module _ (bs : List ℕ) (o : ℕ) (p : Parts) where
  abbrev fits_as : ℕ → Type 0
  fits_as code = item_fits p.bits p.lines p.auxiliaries bs o code ≡ true

  -- the masks of a record that is in order
  masks : (code : ℕ) → fits_as code → WithinLetters p (clause_at bs o code).condition
  masks code fits = let m = and_parts _ _ (and_parts _ _ fits).1 in (ltb-true _ _ m.0, ltb-true _ _ m.1)

  pub formed_more : WellFormed p → (code : ℕ) → fits_as code → WellFormed (with_clause p code (clause_at bs o code))
  formed_more w code fits = record {
    sizes = w.sizes;
    starts = λ c here.
        ⊎_elim
        (λ new.
        let is : code ≡ 2 = eqb-true code 2 new.0 in
        let at_2 : fits_as 2 = subst fits_as is fits in
        let same : c ≡ clause_at bs o 2 = new.1 ∙ ap (clause_at bs o) is in
        subst (λ (x : Clause). (x.letter < p.bits) × (x.condition ≡ always)) (sym same)
        (ltb-true _ _ (and_parts _ _ (and_parts _ _ at_2).0).0, refl))
        (w.starts c) (one_more (eqb code 2) p.starts (clause_at bs o code) here);
    nexts = λ c here.
        ⊎_elim
        (λ new.
        let is : code ≡ 3 = eqb-true code 3 new.0 in
        let at_3 : fits_as 3 = subst fits_as is fits in
        let same : c ≡ clause_at bs o 3 = new.1 ∙ ap (clause_at bs o) is in
        subst (λ (x : Clause). (x.letter < p.bits) × WithinLetters p x.condition) (sym same)
        (ltb-true _ _ (and_parts _ _ (and_parts _ _ at_3).0).0, masks 3 at_3))
        (w.nexts c) (one_more (eqb code 3) p.nexts (clause_at bs o code) here);
    auxes = λ c here.
        ⊎_elim
        (λ new.
        let is : code ≡ 4 = eqb-true code 4 new.0 in
        let at_4 : fits_as 4 = subst fits_as is fits in
        let same : c ≡ clause_at bs o 4 = new.1 ∙ ap (clause_at bs o) is in
        let range = and_parts _ _ (and_parts _ _ (and_parts _ _ at_4).0).0 in
        subst (λ (x : Clause). (p.bits + p.lines ≤ x.letter) × (x.letter < letters p) × WithinLetters p x.condition) (sym same)
        (leb-true _ _ range.0, ltb-true _ _ range.1, masks 4 at_4))
        (w.auxes c) (one_more (eqb code 4) p.auxes (clause_at bs o code) here);
    bans = λ c here.
        ⊎_elim
        (λ new. subst (λ (x : Condition). WithinLetters p x) (sym new.1) (masks code fits))
        (w.bans c) (one_more (eqb code 5) p.bans (clause_at bs o code).condition here);
  }

-- what came through the last checks: the lists, without a loop and without a clash
pub record Passed (s : Seen) (p : Parts) : Type 0 where
  pub same : p ≡ s.parts
  pub no_loop : first_loop s.parts.auxes (2 ^ (s.parts.bits + s.parts.lines + s.parts.auxiliaries)) (s.parts.bits + s.parts.lines) s.parts.auxiliaries ≡ None
  pub no_clash : s.clash_at ≡ None

passed : (s : Seen) (p : Parts) → judge_whole s ≡ Ok p → Passed s p
passed s p e = by_loop (first_loop s.parts.auxes (2 ^ (s.parts.bits + s.parts.lines + s.parts.auxiliaries)) (s.parts.bits + s.parts.lines) s.parts.auxiliaries) refl e
  where
    by_clash : (o : Option ℕ) → s.clash_at ≡ o → first_loop s.parts.auxes (2 ^ (s.parts.bits + s.parts.lines + s.parts.auxiliaries)) (s.parts.bits + s.parts.lines) s.parts.auxiliaries ≡ None → judge_clash s.parts o ≡ Ok p → Passed s p
    by_clash (Some x) is none r = absurd (err_ok (Clash x) p r)
    by_clash None is none r = let eq : s.parts ≡ p = cc in record { same = sym eq; no_loop = none; no_clash = is }

    by_loop : (l : Option ℕ) → first_loop s.parts.auxes (2 ^ (s.parts.bits + s.parts.lines + s.parts.auxiliaries)) (s.parts.bits + s.parts.lines) s.parts.auxiliaries ≡ l → judge_loop s l ≡ Ok p → Passed s p
    by_loop (Some x) is r = absurd (err_ok (Loop x) p r)
    by_loop None is r = by_clash s.clash_at refl is r

-- a record that was kept was in order
pub kept_fits : (bs : List ℕ) (s t : Seen) (o code : ℕ) → judge_record bs s o code ≡ Ok t → (item_fits s.parts.bits s.parts.lines s.parts.auxiliaries bs o code ≡ true) × (t ≡ kept s o code (clause_at bs o code))
kept_fits bs s t o code e = by_head (eqb code 1) refl e
  where
    by_fit : (b : Bool) → item_fits s.parts.bits s.parts.lines s.parts.auxiliaries bs o code ≡ b → cond b (Ok (kept s o code (clause_at bs o code))) (Err (Malformed o)) ≡ Ok t → (item_fits s.parts.bits s.parts.lines s.parts.auxiliaries bs o code ≡ true) × (t ≡ kept s o code (clause_at bs o code))
    by_fit true is r = let eq : kept s o code (clause_at bs o code) ≡ t = cc in (is, sym eq)
    by_fit false is r = absurd (err_ok (Malformed o) t r)

    by_count : (b : Bool) → cond b (Err (TooManyClauses o)) (cond (item_fits s.parts.bits s.parts.lines s.parts.auxiliaries bs o code) (Ok (kept s o code (clause_at bs o code))) (Err (Malformed o))) ≡ Ok t → (item_fits s.parts.bits s.parts.lines s.parts.auxiliaries bs o code ≡ true) × (t ≡ kept s o code (clause_at bs o code))
    by_count true r = absurd (err_ok (TooManyClauses o) t r)
    by_count false r = by_fit (item_fits s.parts.bits s.parts.lines s.parts.auxiliaries bs o code) refl r

    by_head : (b : Bool) → eqb code 1 ≡ b → cond b (Err (HeadMisplaced o)) (cond (leb most_clauses s.count) (Err (TooManyClauses o)) (cond (item_fits s.parts.bits s.parts.lines s.parts.auxiliaries bs o code) (Ok (kept s o code (clause_at bs o code))) (Err (Malformed o)))) ≡ Ok t → (item_fits s.parts.bits s.parts.lines s.parts.auxiliaries bs o code ≡ true) × (t ≡ kept s o code (clause_at bs o code))
    by_head true is r = absurd (err_ok (HeadMisplaced o) t r)
    by_head false is r = by_count (leb most_clauses s.count) r

-- what is true at first and is kept by every record is true of an admitted plan, which came through the last checks
module _ (bs : List ℕ) (Good : Seen → Type 0) (step : (s : Seen) (o code : ℕ) → item_fits s.parts.bits s.parts.lines s.parts.auxiliaries bs o code ≡ true → Good s → Good (kept s o code (clause_at bs o code))) where
  abbrev Goal : Parts → Type 0
  Goal p = (s : Seen) × Good s × Passed s p

  pub through : (f : ℕ) (s : Seen) (at : ℕ) (p : Parts) → Good s → judge_from f bs s at ≡ Ok p → Goal p
  through zero s at p good e = absurd (err_ok (Bytes (Unfinished at)) p e)
  through (suc f) s at p good e = by_record (record_at bs plan_kinds at) (λ t end good_t. through f t end p good_t) e
    where
      by_end : (b : Bool) (end : ℕ) → cond b (Err (Bytes (AfterEnd end))) (judge_whole s) ≡ Ok p → Goal p
      by_end true end r = absurd (err_ok (Bytes (AfterEnd end)) p r)
      by_end false end r = (s, good, passed s p r)

      by_kept : (later : (t : Seen) (end : ℕ) → Good t → judge_from f bs t end ≡ Ok p → Goal p) (o code end : ℕ) (x : Result Seen PlanFault) → judge_record bs s o code ≡ x → go_on (λ t n. judge_from f bs t n) end x ≡ Ok p → Goal p
      by_kept later o code end (Err y) is r = absurd (err_ok y p r)
      by_kept later o code end (Ok t) is r =
          let k = kept_fits bs s t o code is in
          later t end (subst Good (sym k.1) (step s o code k.0 good)) r

      by_code : (later : (t : Seen) (end : ℕ) → Good t → judge_from f bs t end ≡ Ok p → Goal p) (b : Bool) (r : Record) → cond b (judge_end bs s r.end) (go_on (λ t n. judge_from f bs t n) r.end (judge_record bs s r.offset r.code)) ≡ Ok p → Goal p
      by_code later true r is = by_end (ltb r.end (length bs)) r.end is
      by_code later false r is = by_kept later r.offset r.code r.end (judge_record bs s r.offset r.code) refl is

      by_record : (x : Result Record BytesFault) (later : (t : Seen) (end : ℕ) → Good t → judge_from f bs t end ≡ Ok p → Goal p) → judge_found (λ t n. judge_from f bs t n) bs s x ≡ Ok p → Goal p
      by_record (Err y) later is = absurd (err_ok (Bytes y) p is)
      by_record (Ok r) later is = by_code later (eqb r.code 15) r is
