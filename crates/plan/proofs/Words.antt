-- What a clause plan means, in words. Assumes nothing.
use Rattle.std.proofs.Common.{◌≡◌, ℕ, ◌^◌, ◌<◌, Bool, true, false, cond, not, ◌&&◌, eqb, ltb, List, [], ◌∷◌, Decides, sym, refl, ap, ◌∙◌, subst, ⊎_elim}
use mathlib.Core.List.Memᴰ
use mathlib.Core.List.{Memᴰ}
use Rattle.std.proofs.lemmas.Bool.{and_parts, and_from, or_cases, or_left, or_right, eqb-true, eq-eqb, both_ways, false_from_ne_true, cases_Bool, not-true, not_from_false, lt-ltb, cond-true}
use Rattle.plant.specs.Bits.{bit}
use Rattle.plant.specs.Tests.{same}
use Rattle.std.specs.List.{filter, fold, list_all}
use Rattle.plant.specs.declared.condition.Condition.{Condition}
use Rattle.plant.proofs.Bits.{bit_of_or, bit_power, no_bits}
use Rattle.plant.proofs.Bounded.{decides_all, decides_any}
use Rattle.plant.proofs.Conditions.{holds_decides}
use Rattle.plant.proofs.Tests.{same_decides, some_decides}
use Rattle.plant.specs.Conditions.{holds, Holds}
use Rattle.plan.specs.Clauses.{clause_true, ClauseTrue}
use Rattle.plan.specs.Extension.{letter_mask, with_letter, forced}
use Rattle.plan.specs.Items.{always}
use Rattle.plan.specs.Machine.{Parts, Fits, PlanWords, plan_meaning, extension, fits_word, banned, allows, is_pair}
use Rattle.plan.specs.declared.clause.Clause.{Clause}

clause_decides : (w : ℕ) (c : Clause) → Decides (clause_true w c) (ClauseTrue w c)
clause_decides w c =
    let d = holds_decides c.condition w in
    let v = same_decides (bit w c.letter) c.value in (
      λ e h.
          ⊎_elim (λ n. absurd (both_ways _ (not-true _ n) (d.1 h))) (λ s. v.0 s)
          (or_cases (not (holds c.condition w)) (same (bit w c.letter) c.value) e),
      λ t.
          ⊎_elim
          (λ is. or_right (not (holds c.condition w)) _ (v.1 (t (d.0 is))))
          (λ isnt. or_left _ (same (bit w c.letter) c.value) (not_from_false _ isnt))
          (cases_Bool (holds c.condition w)),
    )

-- a test of all elements, in words
all_decides : {X : Type 0} (p : X → Bool) (P : X → Type 0) → ((x : X) → Decides (p x) (P x)) → (xs : List X) → Decides (list_all p xs) ((x : X) → Memᴰ x xs → P x)
all_decides p P each [] = (λ _ x here. absurd (Memᴰ.not-nil here), λ _. refl)
all_decides {X} p P each (x ∷ xs) =
    let rest = all_decides p P each xs in (
      λ e y here.
          let parts = and_parts (p x) (list_all p xs) e in
          ⊎_elim (λ is. subst (λ (z : X). P z) (sym is) ((each x).0 parts.0)) (λ later. rest.0 parts.1 y later) (Memᴰ.cases_cons here),
      λ all. and_from _ _ ((each x).1 (all x (Memᴰ.head refl))) (rest.1 (λ y here. all y (Memᴰ.tail here))),
    )

fits_decides : (p : Parts) (w : ℕ) → Decides (fits_word p w) (Fits p w)
fits_decides p w = all_decides (clause_true w) (ClauseTrue w) (clause_decides w) p.auxes

pub bit_letter : (l i : ℕ) → l < 32 → bit (letter_mask l) i ≡ eqb i l
bit_letter l i lt = ap (λ x. bit x i) (cond-true (ltb l 32) (2 ^ l) 0 (lt-ltb l 32 lt)) ∙ bit_power l i

with_decides : (v : Bool) (l : ℕ) → l < 32 → (masks : Condition) (t : ℕ) → (Holds (with_letter v l masks) t → Holds masks t × (bit t l ≡ v)) × (Holds masks t → bit t l ≡ v → Holds (with_letter v l masks) t)
with_decides true l lt masks t = (
  λ h. (
    record {
      on = λ i has. h.on i (bit_of_or masks.ones (letter_mask l) i ∙ or_left _ _ has);
      off = h.off;
    },
    h.on l (bit_of_or masks.ones (letter_mask l) l ∙ or_right (bit masks.ones l) _ (bit_letter l l lt ∙ eq-eqb l l refl)),
  ),
  λ h v. record {
    on = λ i has.
        ⊎_elim (λ old. h.on i old) (λ new. subst (λ k. bit t k ≡ true) (sym (eqb-true i l (sym (bit_letter l i lt) ∙ new))) v)
        (or_cases (bit masks.ones i) (bit (letter_mask l) i) (sym (bit_of_or masks.ones (letter_mask l) i) ∙ has));
    off = h.off;
  },
)
with_decides false l lt masks t = (
  λ h. (
    record {
      on = h.on;
      off = λ i has. h.off i (bit_of_or masks.zeros (letter_mask l) i ∙ or_left _ _ has);
    },
    h.off l (bit_of_or masks.zeros (letter_mask l) l ∙ or_right (bit masks.zeros l) _ (bit_letter l l lt ∙ eq-eqb l l refl)),
  ),
  λ h v. record {
    on = h.on;
    off = λ i has.
        ⊎_elim (λ old. h.off i old) (λ new. subst (λ k. bit t k ≡ false) (sym (eqb-true i l (sym (bit_letter l i lt) ∙ new))) v)
        (or_cases (bit masks.zeros i) (bit (letter_mask l) i) (sym (bit_of_or masks.zeros (letter_mask l) i) ∙ has));
  },
)

-- every clause of the list whose condition holds in w has its letter of t at its value
abbrev Agrees : ℕ → ℕ → List Clause → Type 0
Agrees w t cs = (c : Clause) → Memᴰ c cs → Holds c.condition w → bit t c.letter ≡ c.value

abbrev SmallLetters : List Clause → Type 0
SmallLetters cs = (c : Clause) → Memᴰ c cs → c.letter < 32

agrees_cons : (w t : ℕ) (c : Clause) (cs : List Clause) → (Holds c.condition w → bit t c.letter ≡ c.value) → Agrees w t cs → Agrees w t (c ∷ cs)
agrees_cons w t c cs first rest d here =
    ⊎_elim
    (λ is. subst (λ (x : Clause). Holds x.condition w → bit t x.letter ≡ x.value) (sym is) first)
    (λ later. rest d later)
    (Memᴰ.cases_cons here)

-- what a first clause forces, and then the others
forced_more : (w : ℕ) (c : Clause) (cs : List Clause) (masks : Condition) → forced w (c ∷ cs) masks ≡ forced w cs (cond (holds c.condition w) (with_letter c.value c.letter masks) masks)
forced_more w c cs masks = by (filter (λ (d : Clause). holds d.condition w) cs) (holds c.condition w)
  where
    by : (ds : List Clause) (b : Bool) → fold (λ e d. with_letter d.value d.letter e) masks (cond b (c ∷ ds) ds) ≡ fold (λ e d. with_letter d.value d.letter e) (cond b (with_letter c.value c.letter masks) masks) ds
    by ds true = refl
    by ds false = refl

-- what the clauses force against, one by one
forced_decides : (w t : ℕ) (cs : List Clause) → SmallLetters cs → (masks : Condition) → (Holds (forced w cs masks) t → Holds masks t × Agrees w t cs) × (Holds masks t → Agrees w t cs → Holds (forced w cs masks) t)
forced_decides w t [] small masks = (λ h. (h, λ c here. absurd (Memᴰ.not-nil here)), λ h _. h)
forced_decides w t (c ∷ cs) small masks = by (holds c.condition w) refl (forced_decides w t cs (λ d here. small d (Memᴰ.tail here)))
  where
    lt : c.letter < 32
    lt = small c (Memᴰ.head refl)

    by : (b : Bool) → holds c.condition w ≡ b → ((ms : Condition) → (Holds (forced w cs ms) t → Holds ms t × Agrees w t cs) × (Holds ms t → Agrees w t cs → Holds (forced w cs ms) t)) → (Holds (forced w (c ∷ cs) masks) t → Holds masks t × Agrees w t (c ∷ cs)) × (Holds masks t → Agrees w t (c ∷ cs) → Holds (forced w (c ∷ cs) masks) t)
    by true is rest =
        let next : Condition = with_letter c.value c.letter masks in
        let step : forced w (c ∷ cs) masks ≡ forced w cs next = forced_more w c cs masks ∙ ap (λ b. forced w cs (cond b next masks)) is in
        let letter = with_decides c.value c.letter lt masks t in (
          λ h.
              let r = (rest next).0 (subst (λ ms. Holds ms t) step h) in
              let l = letter.0 r.0 in
              (l.0, agrees_cons w t c cs (λ _. l.1) r.1),
          λ h all.
              subst (λ ms. Holds ms t) (sym step)
              ((rest next).1 (letter.1 h (all c (Memᴰ.head refl) ((holds_decides c.condition w).0 is))) (λ d here. all d (Memᴰ.tail here))),
        )
    by false is rest =
        let step : forced w (c ∷ cs) masks ≡ forced w cs masks = forced_more w c cs masks ∙ ap (λ b. forced w cs (cond b (with_letter c.value c.letter masks) masks)) is in (
          λ h.
              let r = (rest masks).0 (subst (λ ms. Holds ms t) step h) in
              (r.0, agrees_cons w t c cs (λ yes_holds. absurd (both_ways _ is ((holds_decides c.condition w).1 yes_holds))) r.1),
          λ h all. subst (λ ms. Holds ms t) (sym step) ((rest masks).1 h (λ d here. all d (Memᴰ.tail here))),
        )

nothing_forced : (t : ℕ) → Holds always t
nothing_forced t = record { on = λ i has. absurd (both_ways _ (no_bits i) has); off = λ i has. absurd (both_ways _ (no_bits i) has) }

module _ (p : Parts) (small : SmallLetters p.nexts) where
  allows_decides : (t w : ℕ) → Decides (allows p t w) (Fits p w × Agrees w t p.nexts)
  allows_decides t w =
      let f = fits_decides p w in
      let h = holds_decides (forced w p.nexts always) t in
      let b = forced_decides w t p.nexts small always in (
        λ e. let parts = and_parts (fits_word p w) _ e in (f.0 parts.0, (b.0 (h.0 parts.1)).1),
        λ x. and_from (fits_word p w) _ (f.1 x.0) (h.1 (b.1 (nothing_forced t) x.1)),
      )

  unbanned_decides : (w : ℕ) → Decides (not (banned p w)) (Fits p w → (ban : Condition) → Memᴰ ban p.bans → Holds ban w → ⊥)
  unbanned_decides w =
      let f = fits_decides p w in
      let s = some_decides (λ ban. holds ban w) p.bans in (
        λ e fit ban here h.
            both_ways (banned p w) (not-true (banned p w) e) (and_from (fits_word p w) _ (f.1 fit) (s.1 (ban, here, (holds_decides ban w).1 h))),
        λ none.
            not_from_false (banned p w)
            (false_from_ne_true (banned p w)
            (λ e. let parts = and_parts (fits_word p w) _ e in let b = s.0 parts.1 in none (f.0 parts.0) b.0 b.1 ((holds_decides b.0 w).0 b.2))),
      )

  pair : (s a : ℕ) → s < 2 ^ p.bits → a < 2 ^ p.lines → is_pair p s a ≡ true
  pair s a ss aa = and_from _ _ (lt-ltb s (2 ^ p.bits) ss) (lt-ltb a (2 ^ p.lines) aa)

  pub plan_words : PlanWords p (plan_meaning p)
  plan_words = record {
    bits = refl;
    lines = refl;
    start = λ t tt'.
        let d = all_decides (clause_true t) (ClauseTrue t) (clause_decides t) p.starts in
        (λ e. d.0 (and_parts (ltb t (2 ^ p.bits)) _ e).1, λ h. and_from _ _ (lt-ltb t (2 ^ p.bits) tt') (d.1 h));
    safe = λ s a ss aa.
        let d = decides_all (λ x. not (banned p (extension p s a x))) (2 ^ p.auxiliaries) in (
          λ e x lt. (unbanned_decides (extension p s a x)).0 (d.0 (and_parts (is_pair p s a) _ e).1 x lt),
          λ h. and_from (is_pair p s a) _ (pair s a ss aa) (d.1 (λ x lt. (unbanned_decides (extension p s a x)).1 (h x lt))),
        );
    follows = λ s a t ss aa tt'.
        let d = decides_any (λ x. allows p t (extension p s a x)) (2 ^ p.auxiliaries) in (
          λ e.
              let w = d.0 (and_parts (is_pair p s a && ltb t (2 ^ p.bits)) _ e).1 in
              let h = (allows_decides t (extension p s a w.0)).0 w.2 in
              (w.0, w.1, h.0, h.1),
          λ h.
              and_from (is_pair p s a && ltb t (2 ^ p.bits)) _ (and_from (is_pair p s a) _ (pair s a ss aa) (lt-ltb t (2 ^ p.bits) tt'))
              (d.1 (h.0, h.1, (allows_decides t (extension p s a h.0)).1 (h.2, h.3))),
        );
  }
