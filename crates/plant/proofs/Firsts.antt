-- The first number, or the first element of a list, that passes a test. Assumes nothing.
use Rattle.std.proofs.Common.{sym, ◌∙◌, List, length, get_or, ltb, not, ◌≡◌, ℕ, zero, suc, ◌+◌, ◌<◌, ◌≤◌, Bool, true, false, Some, None, Option, refl, subst, ⊎_elim, arith}
use Rattle.std.specs.List.{find, list_all, position_or_len, range_with_len}
use Rattle.std.specs.Option.{MatchOption, option_map}
use Rattle.std.proofs.lemmas.Bool.{cases_lt, ltb-true, ltb-false, not-false, not-true}
use Rattle.std.proofs.lemmas.List.Sums.{fails_before_first, passes_at_first}
use Rattle.plant.specs.Tests.{FirstMisfit}
use Rattle.plant.proofs.Tests.{all_from_places}
use mathlib.Core.Bool.{cond}

-- no number from a on, of so many, passes
abbrev NoneFrom : (ℕ → Bool) → ℕ → ℕ → Type 0
NoneFrom p a n = (k : ℕ) → a ≤ k → k < a + n → p k ≡ false

-- the number passes, and none from a on before it does
abbrev FirstFrom : (ℕ → Bool) → ℕ → ℕ → ℕ → Type 0
FirstFrom p a n i = (a ≤ i) × (i < a + n) × (p i ≡ true) × ((k : ℕ) → a ≤ k → k < i → p k ≡ false)

module _ (p : ℕ → Bool) where
  -- a number that fails, and then those after it
  later_none : (a n : ℕ) → p a ≡ false → NoneFrom p (a + 1) n → NoneFrom p a (suc n)
  later_none a n fails none k from below =
      ⊎_elim (λ lt. none k (omega arith) (omega arith)) (λ here. let is : a ≡ k = omega arith in subst (λ j. p j ≡ false) is fails) (cases_lt a k)

  later_first : (a n i : ℕ) → p a ≡ false → FirstFrom p (a + 1) n i → FirstFrom p a (suc n) i
  later_first a n i fails h = (
    let f = h.0 in omega arith,
    let b = h.1 in omega arith,
    h.2,
    λ k from below. ⊎_elim (λ lt. h.3 k (omega arith) below) (λ here. let is : a ≡ k = omega arith in subst (λ j. p j ≡ false) is fails) (cases_lt a k),
  )

  later : (a n : ℕ) → p a ≡ false → (r : Option ℕ) → MatchOption r (NoneFrom p (a + 1) n) (λ i. FirstFrom p (a + 1) n i) → MatchOption r (NoneFrom p a (suc n)) (λ i. FirstFrom p a (suc n) i)
  later a n fails None h = later_none a n fails h
  later a n fails (Some i) h = later_first a n i fails h

  by_test : (a n : ℕ) (b : Bool) → p a ≡ b → MatchOption (find p (range_with_len (a + 1) n)) (NoneFrom p (a + 1) n) (λ i. FirstFrom p (a + 1) n i)
      → MatchOption (cond b (Some a) (find p (range_with_len (a + 1) n))) (NoneFrom p a (suc n)) (λ i. FirstFrom p a (suc n) i)
  by_test a n true e _ = (omega arith, omega arith, e, λ k from below. absurd (omega arith))
  by_test a n false e h = later a n e (find p (range_with_len (a + 1) n)) h

  first_from : (a n : ℕ) → MatchOption (find p (range_with_len a n)) (NoneFrom p a n) (λ i. FirstFrom p a n i)
  first_from a zero = λ k from below. absurd (omega arith)
  first_from a (suc n) = by_test a n (p a) refl (first_from (a + 1) n)

  -- the lowest number below n that passes, where there is one
  pub first_below : (n : ℕ) → MatchOption (find p (range_with_len 0 n)) ((k : ℕ) → k < n → p k ≡ false) (λ i. (i < n) × (p i ≡ true) × ((k : ℕ) → k < i → p k ≡ false))
  first_below n = of_answer (find p (range_with_len 0 n)) (first_from 0 n)
    where
      of_answer : (r : Option ℕ) → MatchOption r (NoneFrom p 0 n) (λ i. FirstFrom p 0 n i) → MatchOption r ((k : ℕ) → k < n → p k ≡ false) (λ i. (i < n) × (p i ≡ true) × ((k : ℕ) → k < i → p k ≡ false))
      of_answer None none = λ k lt. none k (omega arith) (omega arith)
      of_answer (Some i) h = (let b = h.1 in omega arith, h.2, λ k lt. h.3 k (omega arith) lt)

-- what `find` over the numbers below n answers
pub found_below : (p : ℕ → Bool) (n : ℕ) (r : Option ℕ) → option_map (λ k. k) r ≡ find p (range_with_len 0 n) → MatchOption r ((k : ℕ) → k < n → p k ≡ false) (λ i. (i < n) × (p i ≡ true) × ((k : ℕ) → k < i → p k ≡ false))
found_below p n r e =
    subst (λ o. MatchOption o ((k : ℕ) → k < n → p k ≡ false) (λ i. (i < n) × (p i ≡ true) × ((k : ℕ) → k < i → p k ≡ false)))
    (sym (unchanged r ∙ e)) (first_below p n)
  where
    unchanged : (o : Option ℕ) → o ≡ option_map (λ k. k) o
    unchanged None = refl
    unchanged (Some k) = refl

-- the first element that fails the test, where there is one; else all pass
module _ {X : Type 0} (p : X → Bool) (xs : List X) where
  -- whether an element fails
  abbrev fails : X → Bool
  fails x = not (p x)

  -- the place of the first that fails, or the length
  abbrev place : ℕ
  place = position_or_len fails xs

  none_fails : length xs ≤ place → list_all p xs ≡ true
  none_fails past = all_from_places p xs (λ k d lt. not-false (p (get_or xs k d)) (fails_before_first fails xs k d (omega arith)))

  one_fails : place < length xs → FirstMisfit p xs place
  one_fails inside = record {
    inside = inside;
    fails = λ d. not-true (p (get_or xs place d)) (passes_at_first fails xs d inside);
    first = λ k d lt. not-false (p (get_or xs k d)) (fails_before_first fails xs k d lt);
  }

  -- what `position` answers, asked for the first element that fails
  pub first_misfit : (r : Option ℕ) → r ≡ cond (ltb place (length xs)) (Some place) None → MatchOption r (list_all p xs ≡ true) (λ i. FirstMisfit p xs i)
  first_misfit r e = subst (λ o. MatchOption o (list_all p xs ≡ true) (λ i. FirstMisfit p xs i)) (sym e) (by_test (ltb place (length xs)) refl)
    where
      by_test : (t : Bool) → ltb place (length xs) ≡ t → MatchOption (cond t (Some place) None) (list_all p xs ≡ true) (λ i. FirstMisfit p xs i)
      by_test true is = one_fails (ltb-true _ _ is)
      by_test false is = none_fails (ltb-false _ _ is)
