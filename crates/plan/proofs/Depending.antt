-- The computed test for a letter that depends on itself, in words. Assumes nothing.
use Rattle.std.proofs.Common.{◌≡◌, ℕ, zero, suc, ◌+◌, ◌^◌, ◌<◌, ◌≤◌, Bool, true, false, cond, eqb, ◌⊎◌, List, [], ◌∷◌, Some, None, Decides, sym, refl, ap, ◌∙◌, subst, inl, inr, ⊎_elim, arith}
use lib.Bits.{bit_or}
use Rattle.std.specs.List.{filter, fold}
use mathlib.Core.List.Memᴰ
use mathlib.Core.List.{Memᴰ}
use Rattle.std.proofs.lemmas.Nat.{or_lt}
use Rattle.std.proofs.lemmas.Bool.{or_cases, or_left, or_right, eqb-true, eq-eqb, both_ways, cases_lt}
use Rattle.plant.specs.Bits.{bit}
use Rattle.plant.proofs.Bits.{bit_of_or, more_bits, no_bits, below_pow}
use Rattle.plan.specs.Depends.{Names, Depends}
use Rattle.plan.specs.Depends.Depends.{directly, through}
use Rattle.plan.specs.Extension.{letter_mask}
use Rattle.plan.specs.Loops.{gathered, further, reached, first_loop}
use Rattle.plan.specs.declared.clause.Clause.{Clause}
use Rattle.plan.proofs.Words.{bit_letter}

-- the letters in the condition of a clause
abbrev pub named : Clause → ℕ
named c = bit_or c.condition.ones c.condition.zeros

-- what a first clause adds, and then the others
gathered_more : (c : Clause) (cs : List Clause) (roots found : ℕ) → gathered (c ∷ cs) roots found ≡ gathered cs roots (cond (bit roots c.letter) (bit_or found (named c)) found)
gathered_more c cs roots found = by (filter (λ (d : Clause). bit roots d.letter) cs) (bit roots c.letter)
  where
    by : (ds : List Clause) (b : Bool) → fold (λ all d. bit_or all (named d)) found (cond b (c ∷ ds) ds) ≡ fold (λ all d. bit_or all (named d)) (cond b (bit_or found (named c)) found) ds
    by ds true = refl
    by ds false = refl

gathered_keeps : (cs : List Clause) (roots found k : ℕ) → bit found k ≡ true → bit (gathered cs roots found) k ≡ true
gathered_keeps [] roots found k has = has
gathered_keeps (c ∷ cs) roots found k has = ap (λ x. bit x k) (gathered_more c cs roots found) ∙ gathered_keeps cs roots _ k (by (bit roots c.letter))
  where
    by : (b : Bool) → bit (cond b (bit_or found (named c)) found) k ≡ true
    by true = bit_of_or found (named c) k ∙ or_left _ _ has
    by false = has

gathered_adds : (cs : List Clause) (roots found k : ℕ) (c : Clause) → Memᴰ c cs → bit roots c.letter ≡ true → bit (named c) k ≡ true → bit (gathered cs roots found) k ≡ true
gathered_adds [] roots found k c here on has = absurd (Memᴰ.not-nil here)
gathered_adds (d ∷ cs) roots found k c here on has =
    ap (λ x. bit x k) (gathered_more d cs roots found) ∙ ⊎_elim
    (λ is.
    let on_d : bit roots d.letter ≡ true = subst (λ (z : Clause). bit roots z.letter ≡ true) is on in
    let has_d : bit (named d) k ≡ true = subst (λ (z : Clause). bit (named z) k ≡ true) is has in
    gathered_keeps cs roots _ k (ap (λ (b : Bool). bit (cond b (bit_or found (named d)) found) k) on_d ∙ bit_of_or found (named d) k ∙ or_right (bit found k) _ has_d))
    (λ later. gathered_adds cs roots _ k c later on has)
    (Memᴰ.cases_cons here)

-- a letter that was gathered was found before, or stands in a condition of a clause for a root
gathered_only : (cs : List Clause) (roots found k : ℕ) → bit (gathered cs roots found) k ≡ true → (bit found k ≡ true) ⊎ ((c : Clause) × Memᴰ c cs × (bit roots c.letter ≡ true) × (bit (named c) k ≡ true))
gathered_only [] roots found k has = inl has
gathered_only (d ∷ cs) roots found k has =
    ⊎_elim (λ old. by (bit roots d.letter) refl old) (λ w. inr (w.0, Memᴰ.tail w.1, w.2, w.3)) (gathered_only cs roots _ k (sym (ap (λ x. bit x k) (gathered_more d cs roots found)) ∙ has))
  where
    by : (b : Bool) → bit roots d.letter ≡ b → bit (cond b (bit_or found (named d)) found) k ≡ true → (bit found k ≡ true) ⊎ ((c : Clause) × Memᴰ c (d ∷ cs) × (bit roots c.letter ≡ true) × (bit (named c) k ≡ true))
    by true on e = ⊎_elim (λ old. inl old) (λ new. inr (d, Memᴰ.head refl, on, new)) (or_cases (bit found k) (bit (named d) k) (sym (bit_of_or found (named d) k) ∙ e))
    by false on e = inl e

-- the clauses have no letter at or above
abbrev pub Below : ℕ → List Clause → Type 0
Below n cs = (c : Clause) → Memᴰ c cs → named c < 2 ^ n

gathered_small : (n : ℕ) (cs : List Clause) (roots found : ℕ) → Below n cs → found < 2 ^ n → gathered cs roots found < 2 ^ n
gathered_small n [] roots found small lt = lt
gathered_small n (c ∷ cs) roots found small lt = subst (λ x. x < 2 ^ n) (sym (gathered_more c cs roots found)) (gathered_small n cs roots _ (λ d here. small d (Memᴰ.tail here)) (by (bit roots c.letter)))
  where
    by : (b : Bool) → cond b (bit_or found (named c)) found < 2 ^ n
    by true = or_lt n found (named c) lt (small c (Memᴰ.head refl))
    by false = lt

-- with rounds enough, the last finds no more
further_closed : (n : ℕ) (cs : List Clause) → Below n cs → (rounds found : ℕ) → found < 2 ^ n → 2 ^ n ≤ rounds + found → gathered cs (further cs rounds found) (further cs rounds found) ≡ further cs rounds found
further_closed n cs small zero found lt enough = absurd (omega arith)
further_closed n cs small (suc rounds) found lt enough = by (further_closed n cs small rounds (gathered cs found found)) (eqb (gathered cs found found) found) refl
  where
    no_less : found ≤ (gathered cs found found)
    no_less = more_bits found (gathered cs found found) (λ i has. gathered_keeps cs found found i has)

    by : ((gathered cs found found) < 2 ^ n → 2 ^ n ≤ rounds + (gathered cs found found) → gathered cs (further cs rounds (gathered cs found found)) (further cs rounds (gathered cs found found)) ≡ further cs rounds (gathered cs found found)) → (b : Bool) → eqb (gathered cs found found) found ≡ b → gathered cs (cond b found (further cs rounds (gathered cs found found))) (cond b found (further cs rounds (gathered cs found found))) ≡ cond b found (further cs rounds (gathered cs found found))
    by later true e = eqb-true (gathered cs found found) found e
    by later false e =
        let other : (gathered cs found found) ≡ found → ⊥ = λ is. both_ways _ e (eq-eqb (gathered cs found found) found is) in
        let le = no_less in
        later (gathered_small n cs found found small lt) (omega (arith, other))

further_keeps : (cs : List Clause) (rounds found k : ℕ) → bit found k ≡ true → bit (further cs rounds found) k ≡ true
further_keeps cs zero found k has = has
further_keeps cs (suc rounds) found k has = by (further_keeps cs rounds (gathered cs found found) k (gathered_keeps cs found found k has)) (eqb (gathered cs found found) found)
  where
    by : bit (further cs rounds (gathered cs found found)) k ≡ true → (b : Bool) → bit (cond b found (further cs rounds (gathered cs found found))) k ≡ true
    by later true = has
    by later false = later

names_of : (cs : List Clause) (c : Clause) (l k : ℕ) → Memᴰ c cs → c.letter ≡ l → bit (named c) k ≡ true → Names cs l k
names_of cs c l k here own has = record {
  clause = c;
  here = here;
  own = own;
  named = or_cases _ _ (sym (bit_of_or c.condition.ones c.condition.zeros k) ∙ has);
}

named_bit : (c : Clause) (k : ℕ) → (bit c.condition.ones k ≡ true) ⊎ (bit c.condition.zeros k ≡ true) → bit (named c) k ≡ true
named_bit c k w = bit_of_or c.condition.ones c.condition.zeros k ∙ ⊎_elim (λ one. or_left _ _ one) (λ z. or_right (bit c.condition.ones k) _ z) w

further_only : (cs : List Clause) (P : ℕ → Type 0) → ((k j : ℕ) → P k → Names cs k j → P j) → (rounds found : ℕ) → ((k : ℕ) → bit found k ≡ true → P k) → (k : ℕ) → bit (further cs rounds found) k ≡ true → P k
further_only cs P on zero found all k has = all k has
further_only cs P on (suc rounds) found all k has = by (further_only cs P on rounds (gathered cs found found) more_all k) (eqb (gathered cs found found) found) has
  where
    more_all : (i : ℕ) → bit (gathered cs found found) i ≡ true → P i
    more_all i is =
        ⊎_elim (λ old. all i old) (λ w. on w.0.letter i (all w.0.letter w.2) (names_of cs w.0 w.0.letter i w.1 refl w.3))
        (gathered_only cs found found i is)

    by : (bit (further cs rounds (gathered cs found found)) k ≡ true → P k) → (b : Bool) → bit (cond b found (further cs rounds (gathered cs found found))) k ≡ true → P k
    by later true e = all k e
    by later false e = later e

-- what is reached from a letter is what it depends on
module _ (n : ℕ) (cs : List Clause) (small : Below n cs) (l : ℕ) (lt : l < 32) where
  abbrev first : ℕ
  first = gathered cs (letter_mask l) 0

  first_only : (k : ℕ) → bit first k ≡ true → Depends cs l k
  first_only k has =
      ⊎_elim (λ none. absurd (both_ways _ (no_bits k) none))
      (λ w. directly (names_of cs w.0 l k w.1 (eqb-true _ _ (sym (bit_letter l w.0.letter lt) ∙ w.2)) w.3))
      (gathered_only cs (letter_mask l) 0 k has)

  first_has : (k : ℕ) → Names cs l k → bit first k ≡ true
  first_has k w =
      gathered_adds cs (letter_mask l) 0 k w.clause w.here (bit_letter l w.clause.letter lt ∙ eq-eqb _ _ w.own) (named_bit w.clause k w.named)

  has : (k : ℕ) → Depends cs l k → bit (reached cs (2 ^ n) l) k ≡ true
  has k (directly w) = further_keeps cs (2 ^ n) first k (first_has k w)
  has j (through {k = k} d w) =
      let all : ℕ = reached cs (2 ^ n) l in
      let closed : gathered cs all all ≡ all = further_closed n cs small (2 ^ n) first (gathered_small n cs (letter_mask l) 0 small (let h = below_pow n in omega arith)) (omega arith) in
      let root : bit all w.clause.letter ≡ true = subst (λ i. bit all i ≡ true) (sym w.own) (has k d) in
      subst (λ x. bit x j ≡ true) closed (gathered_adds cs all all j w.clause w.here root (named_bit w.clause j w.named))

  pub reached_decides : (k : ℕ) → Decides (bit (reached cs (2 ^ n) l) k) (Depends cs l k)
  reached_decides k = (further_only cs (Depends cs l) (λ i j d w. through d w) (2 ^ n) first first_only k, has k)

-- the lowest of so many letters that depends on itself, where there is one
pub none_loops : (cs : List Clause) (rounds from n : ℕ) → first_loop cs rounds from n ≡ None → (k : ℕ) → from ≤ k → k < from + n → bit (reached cs rounds k) k ≡ false
none_loops cs rounds from zero e k ge lt = absurd (omega arith)
none_loops cs rounds from (suc n) e k ge lt = by (none_loops cs rounds (from + 1) n) (bit (reached cs rounds from) from) refl e
  where
    by : (first_loop cs rounds (from + 1) n ≡ None → (i : ℕ) → from + 1 ≤ i → i < from + 1 + n → bit (reached cs rounds i) i ≡ false) → (b : Bool) → bit (reached cs rounds from) from ≡ b → cond b (Some from) (first_loop cs rounds (from + 1) n) ≡ None → bit (reached cs rounds k) k ≡ false
    by later true is e = let z : ◌≡◌ {A = ℕ} 0 1 = cc in absurd (omega arith)
    by later false is e = ⊎_elim (λ here. subst (λ i. bit (reached cs rounds i) i ≡ false) (omega arith) is) (λ past. later e k (omega arith) (omega arith)) (cases_lt k (from + 1))

pub some_loops : (cs : List Clause) (rounds from n l : ℕ) → first_loop cs rounds from n ≡ Some l → (from ≤ l) × (l < from + n) × (bit (reached cs rounds l) l ≡ true) × ((k : ℕ) → from ≤ k → k < l → bit (reached cs rounds k) k ≡ false)
some_loops cs rounds from zero l e = let z : ◌≡◌ {A = ℕ} 0 1 = cc in absurd (omega arith)
some_loops cs rounds from (suc n) l e = by (some_loops cs rounds (from + 1) n l) (bit (reached cs rounds from) from) refl e
  where
    by : (first_loop cs rounds (from + 1) n ≡ Some l → (from + 1 ≤ l) × (l < from + 1 + n) × (bit (reached cs rounds l) l ≡ true) × ((k : ℕ) → from + 1 ≤ k → k < l → bit (reached cs rounds k) k ≡ false)) → (b : Bool) → bit (reached cs rounds from) from ≡ b → cond b (Some from) (first_loop cs rounds (from + 1) n) ≡ Some l → (from ≤ l) × (l < from + suc n) × (bit (reached cs rounds l) l ≡ true) × ((k : ℕ) → from ≤ k → k < l → bit (reached cs rounds k) k ≡ false)
    by later true is e =
        let same : from ≡ l = cc in
        (omega arith, omega arith, subst (λ i. bit (reached cs rounds i) i ≡ true) same is, λ k ge lt. absurd (omega arith))
    by later false is e =
        let h = later e in
        let ge = h.0 in
        let lt = h.1 in
        (omega arith, omega arith, h.2, λ k from_k k_l. ⊎_elim (λ here. subst (λ i. bit (reached cs rounds i) i ≡ false) (omega arith) is) (λ past. h.3 k past k_l) (cases_lt k (from + 1)))

further_small : (n : ℕ) (cs : List Clause) → Below n cs → (rounds found : ℕ) → found < 2 ^ n → further cs rounds found < 2 ^ n
further_small n cs small zero found lt = lt
further_small n cs small (suc rounds) found lt = by (further_small n cs small rounds (gathered cs found found) (gathered_small n cs found found small lt)) (eqb (gathered cs found found) found)
  where
    by : further cs rounds (gathered cs found found) < 2 ^ n → (b : Bool) → cond b found (further cs rounds (gathered cs found found)) < 2 ^ n
    by later true = lt
    by later false = later

pub reached_small : (n : ℕ) (cs : List Clause) → Below n cs → (l : ℕ) → reached cs (2 ^ n) l < 2 ^ n
reached_small n cs small l = further_small n cs small (2 ^ n) (gathered cs (letter_mask l) 0) (gathered_small n cs (letter_mask l) 0 small (let h = below_pow n in omega arith))
