-- An admitted plan is well-formed, free of clashes, and means what its clauses say. Assumes nothing.
use Rattle.plant.specs.Meaning.{most_bits, most_lines}
use Rattle.std.proofs.Common.{◌≡◌, ℕ, ◌+◌, ◌^◌, ◌<◌, ◌≤◌, Bool, true, false, cond, eqb, List, [], ◌∷◌, ◌++◌, length, IfOk, Some, None, Ok, Err, Decides, Option, Result, sym, refl, ap, ◌∙◌, subst, ⊎_elim, arith}
use lib.Bits.{bit_and, bit_or}
use mathlib.Core.List.Memᴰ
use mathlib.Core.List.{Memᴰ}
use Rattle.std.proofs.lemmas.Nat.{and_le_r, or_lt}
use Rattle.std.proofs.lemmas.Bool.{and_parts, and_from, or_cases, or_left, or_right, eqb-true, eq-eqb, both_ways, false_from_ne_true, not-true, not_from_false, cases_Bool}
use Rattle.plant.specs.Bits.{bit}
use Rattle.std.specs.List.{list_any}
use Rattle.plant.proofs.Bits.{bit_of_and, bit_of_or, no_bits, same_bits, below_pow}
use Rattle.plant.proofs.Bounded.{same_tests}
use Rattle.plant.proofs.Tests.{same_decides, some_decides}
use Rattle.records.specs.Reading.{Record, record_at}
use Rattle.records.specs.declared.BytesFault.{BytesFault}
use Rattle.plan.specs.Admitted.{Admitted, Clash, ClashFree}
use Rattle.plan.specs.Depends.{Depends, LoopFree}
use Rattle.plan.specs.Depends.Depends.{directly, through as by_way_of}
use Rattle.plan.specs.Formed.{WellFormed, letters}
use Rattle.plan.specs.Held.{parts_of}
use Rattle.plan.specs.Items.{byte, clash, clause_at, item_fits}
use Rattle.plan.specs.Judging.{Seen, plan_kinds, clashes_with, earlier, kept, none_yet, judge, judge_from, judge_head}
use Rattle.plan.specs.Kept.{AsExpected}
use Rattle.plan.specs.Loops.{first_loop, reached}
use Rattle.plan.specs.Machine.{Parts}
use Rattle.plan.specs.Sizes.{sizes_fit, most_auxiliaries}
use Rattle.plan.specs.declared.clause.Clause.{Clause}
use Rattle.plan.specs.declared.fault.PlanFault.{PlanFault}
use Rattle.plan.specs.declared.fault.PlanFault.TheVariants.{Bytes, HeadMisplaced, SizeLimits}
use Rattle.plan.specs.declared.plan.Plan.{Plan}
use Rattle.plan.proofs.Depending.{Below, none_loops, reached_decides}
use Rattle.plan.proofs.Fitting.{fitting, followed}
use Rattle.plan.proofs.Forming.{formed_more, one_more, Passed, through}
use Rattle.records.proofs.Finding.{err_ok}
use Rattle.plan.proofs.Sizing.{limits_from}
use Rattle.plan.proofs.Words.{plan_words}

-- the computed test for a clash, in words
module _ (c d : Clause) where
  abbrev ones : ℕ
  ones = bit_or c.condition.ones d.condition.ones

  abbrev zeros : ℕ
  zeros = bit_or c.condition.zeros d.condition.zeros

  -- no letter is wanted on by one and off by the other
  apart : (i : ℕ) → bit_and ones zeros ≡ 0 → bit ones i ≡ true → bit zeros i ≡ true → ⊥
  apart i none on off = both_ways _ (no_bits i) (ap (λ x. bit x i) (sym none) ∙ bit_of_and ones zeros i ∙ and_from _ _ on off)

  pub clash_decides : Decides (clash c d) (Clash c d)
  clash_decides = (
    λ e.
        let parts = and_parts _ _ e in
        let heads = and_parts _ _ parts.0 in
        let none : bit_and ones zeros ≡ 0 = eqb-true _ _ parts.1 in
        record {
          letter = eqb-true _ _ heads.0;
          opposite = λ same_value. both_ways _ (not-true _ heads.1) ((same_decides c.value d.value).1 same_value);
          together = (
            ones,
            record {
              on = λ i has. bit_of_or c.condition.ones d.condition.ones i ∙ or_left _ _ has;
              off = λ i has. off_there i none (bit_of_or c.condition.zeros d.condition.zeros i ∙ or_left _ _ has);
            },
            record {
              on = λ i has. bit_of_or c.condition.ones d.condition.ones i ∙ or_right (bit c.condition.ones i) _ has;
              off = λ i has. off_there i none (bit_of_or c.condition.zeros d.condition.zeros i ∙ or_right (bit c.condition.zeros i) _ has);
            },
          );
        },
    λ h.
        let w = h.together.0 in
        let none : bit_and ones zeros ≡ 0 =
        same_bits (bit_and ones zeros) 0 zeros (let l = and_le_r ones zeros in let b = below_pow zeros in omega arith) (let b = below_pow zeros in omega arith)
        (λ i _. bit_of_and ones zeros i ∙ same_tests _ _ (λ both. let p = and_parts (bit ones i) (bit zeros i) both in absurd (both_ways (bit w i) (off_in h i p.1) (on_in h i p.0))) (λ e. absurd (both_ways _ (no_bits i) e))) in
        and_from _ _
        (and_from _ _ (eq-eqb _ _ h.letter)
        (not_from_false _ (false_from_ne_true _ (λ e. h.opposite ((same_decides c.value d.value).0 e)))))
        (eq-eqb _ _ none),
  )
    where
      off_there : (i : ℕ) → bit_and ones zeros ≡ 0 → bit zeros i ≡ true → bit ones i ≡ false
      off_there i none off = ⊎_elim (λ on. absurd (apart i none on off)) (λ isnt. isnt) (cases_Bool (bit ones i))

      on_in : (h : Clash c d) (i : ℕ) → bit ones i ≡ true → bit h.together.0 i ≡ true
      on_in h i on = ⊎_elim (h.together.1.on i) (h.together.2.on i) (or_cases _ _ (sym (bit_of_or c.condition.ones d.condition.ones i) ∙ on))

      off_in : (h : Clash c d) (i : ℕ) → bit zeros i ≡ true → bit h.together.0 i ≡ false
      off_in h i off = ⊎_elim (h.together.1.off i) (h.together.2.off i) (or_cases _ _ (sym (bit_of_or c.condition.zeros d.condition.zeros i) ∙ off))

clash_turned : (c d : Clause) → Clash c d → Clash d c
clash_turned c d h = record { letter = sym h.letter; opposite = λ e. h.opposite (sym e); together = (h.together.0, h.together.2, h.together.1) }

-- one clause more that clashes with none before it
pub free_more : (b : Bool) (cs : List Clause) (c : Clause) → (b ≡ true → list_any (clash c) cs ≡ false) → ClashFree cs → ClashFree (cond b (cs ++ (c ∷ [])) cs)
free_more b cs c none free x y in_x in_y h =
    ⊎_elim
    (λ new_x. ⊎_elim
    (λ new_y. h.opposite (ap (λ (z : Clause). z.value) (new_x.1 ∙ sym new_y.1)))
    (λ old_y. fails new_x.0 y old_y (subst (λ (z : Clause). Clash z y) new_x.1 h))
    (one_more b cs c in_y))
    (λ old_x. ⊎_elim
    (λ new_y. fails new_y.0 x old_x (clash_turned x c (subst (λ (z : Clause). Clash x z) new_y.1 h)))
    (λ old_y. free x y old_x old_y h)
    (one_more b cs c in_y))
    (one_more b cs c in_x)
  where
    fails : b ≡ true → (d : Clause) → Memᴰ d cs → Clash c d → ⊥
    fails is d here bad = both_ways (list_any (clash c) cs) (none is) ((some_decides (clash c) cs).1 (d, here, (clash_decides c d).1 bad))

-- what was read so far: well-formed, and where no clash was noted, free of clashes
pub record Good (s : Seen) : Type 0 where
  pub formed : WellFormed s.parts
  pub starts : s.clash_at ≡ None → ClashFree s.parts.starts
  pub nexts : s.clash_at ≡ None → ClashFree s.parts.nexts
  pub auxes : s.clash_at ≡ None → ClashFree s.parts.auxes

-- where nothing is noted with one clause more, nothing was noted before, and the clause does not clash
earlier_none : (x : Option ℕ) (t : Bool) (o : ℕ) → earlier x t o ≡ None → (x ≡ None) × (t ≡ false)
earlier_none (Some y) t o e = let z : ◌≡◌ {A = ℕ} 0 1 = cc in absurd (omega arith)
earlier_none None true o e = let z : ◌≡◌ {A = ℕ} 0 1 = cc in absurd (omega arith)
earlier_none None false o e = (refl, refl)

clashes_2 : (p : Parts) (code : ℕ) (c : Clause) → clashes_with p code c ≡ false → eqb code 2 ≡ true → list_any (clash c) p.starts ≡ false
clashes_2 p code c none is = subst (λ k. clashes_with p k c ≡ false) (eqb-true code 2 is) none

clashes_3 : (p : Parts) (code : ℕ) (c : Clause) → clashes_with p code c ≡ false → eqb code 3 ≡ true → list_any (clash c) p.nexts ≡ false
clashes_3 p code c none is = subst (λ k. clashes_with p k c ≡ false) (eqb-true code 3 is) none

clashes_4 : (p : Parts) (code : ℕ) (c : Clause) → clashes_with p code c ≡ false → eqb code 4 ≡ true → list_any (clash c) p.auxes ≡ false
clashes_4 p code c none is = subst (λ k. clashes_with p k c ≡ false) (eqb-true code 4 is) none

good_more : (bs : List ℕ) (s : Seen) (o code : ℕ) → item_fits s.parts.bits s.parts.lines s.parts.auxiliaries bs o code ≡ true → Good s → Good (kept s o code (clause_at bs o code))
good_more bs s o code fits g =
    let c = clause_at bs o code in
    let p = s.parts in
    let was : earlier s.clash_at (clashes_with p code c) o ≡ None → (s.clash_at ≡ None) × (clashes_with p code c ≡ false) = earlier_none s.clash_at (clashes_with p code c) o in
    record {
      formed = formed_more bs o p g.formed code fits;
      starts = λ e. let h = was e in free_more (eqb code 2) p.starts c (clashes_2 p code c h.1) (g.starts h.0);
      nexts = λ e. let h = was e in free_more (eqb code 3) p.nexts c (clashes_3 p code c h.1) (g.nexts h.0);
      auxes = λ e. let h = was e in free_more (eqb code 4) p.auxes c (clashes_4 p code c h.1) (g.auxes h.0);
    }

good_none : (b n m : ℕ) → sizes_fit b n m ≡ true → Good (none_yet b n m)
good_none b n m fits = record {
  formed = record {
    sizes = fits;
    starts = λ c here. absurd (Memᴰ.not-nil here);
    nexts = λ c here. absurd (Memᴰ.not-nil here);
    auxes = λ c here. absurd (Memᴰ.not-nil here);
    bans = λ c here. absurd (Memᴰ.not-nil here);
  };
  starts = λ _ c d here. absurd (Memᴰ.not-nil here);
  nexts = λ _ c d here. absurd (Memᴰ.not-nil here);
  auxes = λ _ c d here. absurd (Memᴰ.not-nil here);
}

-- a state bit's letter has a place in a mask
small_letters : (p : Parts) → WellFormed p → (c : Clause) → Memᴰ c p.nexts → c.letter < 32
small_letters p w c here =
    let limits = limits_from p.bits p.lines p.auxiliaries w.sizes in
    let lt = (w.nexts c here).0 in
    omega arith

few_letters : (p : Parts) → WellFormed p → letters p ≤ most_bits + most_lines + most_auxiliaries
few_letters p w =
    let limits = limits_from p.bits p.lines p.auxiliaries w.sizes in
    omega arith

small_masks : (p : Parts) → WellFormed p → Below (letters p) p.auxes
small_masks p w c here = or_lt (letters p) c.condition.ones c.condition.zeros (w.auxes c here).2.0 (w.auxes c here).2.1

-- a letter that depends on anything has a clause
pub owner : {cs : List Clause} {l k : ℕ} → Depends cs l k → (c : Clause) × Memᴰ c cs × (c.letter ≡ l)
owner (directly n) = (n.clause, n.here, n.own)
owner (by_way_of e _) = owner e

-- the computed test for a letter that depends on itself, in words
pub loop_decides : (p : Parts) → WellFormed p → (l : ℕ) → l < letters p → Decides (bit (reached p.auxes (2 ^ letters p) l) l) (Depends p.auxes l l)
loop_decides p w l lt =
    let few = few_letters p w in
    reached_decides (letters p) p.auxes (small_masks p w) l (omega arith) l

-- a letter that depends on anything is an auxiliary
pub auxiliary_letter : (p : Parts) → WellFormed p → (l k : ℕ) → Depends p.auxes l k → (p.bits + p.lines ≤ l) × (l < letters p)
auxiliary_letter p w l k d =
    let own = owner d in
    let place = w.auxes own.0 own.1 in
    (subst (λ i. p.bits + p.lines ≤ i) own.2 place.0, subst (λ i. i < letters p) own.2 place.1)

-- where no loop was found, no letter depends on itself
pub free_of_loops : (p : Parts) → WellFormed p → first_loop p.auxes (2 ^ letters p) (p.bits + p.lines) p.auxiliaries ≡ None → LoopFree p.auxes
free_of_loops p w none l d =
    let place = auxiliary_letter p w l l d in
    both_ways _ (none_loops p.auxes (2 ^ letters p) (p.bits + p.lines) p.auxiliaries none l place.0 place.1) ((loop_decides p w l place.1).1 d)

admitted_from : (s : Seen) → Good s → (p : Parts) → Passed s p → Admitted p
admitted_from s g p passed =
    let few : letters s.parts ≤ 32 = let h = few_letters s.parts g.formed in omega arith in
    let no_loop = free_of_loops s.parts g.formed passed.no_loop in
    subst (λ (q : Parts). Admitted q) (sym passed.same)
    (record {
      well_formed = g.formed;
      loop_free = no_loop;
      starts_agree = g.starts passed.no_clash;
      nexts_agree = g.nexts passed.no_clash;
      auxes_agree = g.auxes passed.no_clash;
      words = plan_words s.parts (small_letters s.parts g.formed);
      fitting = fitting s.parts g.formed few (small_masks s.parts g.formed) no_loop (g.auxes passed.no_clash);
      followed = followed s.parts g.formed few (small_masks s.parts g.formed) no_loop (g.auxes passed.no_clash) (g.nexts passed.no_clash);
    })

pub judged_admitted : (bs : List ℕ) (p : Parts) → judge bs ≡ Ok p → Admitted p
judged_admitted bs p e = by_head (record_at bs plan_kinds 0) e
  where
    by_sizes : (r : Record) (b : Bool) → sizes_fit (byte bs 1) (byte bs 2) (byte bs 3) ≡ b → cond b (judge_from (length bs) bs (none_yet (byte bs 1) (byte bs 2) (byte bs 3)) r.end) (Err SizeLimits) ≡ Ok p → Admitted p
    by_sizes r true fits is =
        let w = through bs Good (good_more bs) (length bs) (none_yet (byte bs 1) (byte bs 2) (byte bs 3)) r.end p (good_none (byte bs 1) (byte bs 2) (byte bs 3) fits) is in
        admitted_from w.0 w.1 p w.2
    by_sizes r false fits is = absurd (err_ok SizeLimits p is)

    by_code : (r : Record) (b : Bool) → cond b (cond (sizes_fit (byte bs 1) (byte bs 2) (byte bs 3)) (judge_from (length bs) bs (none_yet (byte bs 1) (byte bs 2) (byte bs 3)) r.end) (Err SizeLimits)) (Err (HeadMisplaced 0)) ≡ Ok p → Admitted p
    by_code r true is = by_sizes r (sizes_fit (byte bs 1) (byte bs 2) (byte bs 3)) refl is
    by_code r false is = absurd (err_ok (HeadMisplaced 0) p is)

    by_head : (x : Result Record BytesFault) → judge_head bs x ≡ Ok p → Admitted p
    by_head (Err y) is = absurd (err_ok (Bytes y) p is)
    by_head (Ok r) is = by_code r (eqb r.code 1) is

pub read_admitted : (bs : List ℕ) (r : Result Plan PlanFault) → AsExpected (judge bs) parts_of r → IfOk r (λ x. Admitted (parts_of x))
read_admitted bs (Ok x) is = judged_admitted bs (parts_of x) is
read_admitted bs (Err f) is = tt
