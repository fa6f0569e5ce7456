-- Tests over the numbers below a bound, as statements about each of them. Assumes nothing.
use Rattle.std.proofs.Common.{◌≡◌, ℕ, zero, suc, ◌+◌, ◌<◌, ◌≤◌, Bool, true, false, Decides, refl, subst, ⊎_elim, arith}
use Rattle.std.specs.List.{list_all, list_any, range_with_len}
use Rattle.std.proofs.lemmas.Bool.Decides.{same_from_decides}
use Rattle.std.proofs.lemmas.Bool.{and_from, and_parts, both_ways, cases_lt, false_from_ne_true, or_cases, or_left, or_right, false≢true}
use Rattle.plant.specs.Bounded.{all_below, any_below}

-- a test decides that it is true
pub decides_itself : (b : Bool) → Decides b (b ≡ true)
decides_itself b = (λ e. e, λ e. e)

-- two tests that imply one another are equal
pub same_tests : (b c : Bool) → (b ≡ true → c ≡ true) → (c ≡ true → b ≡ true) → b ≡ c
same_tests b c f g = same_from_decides b c (f, g) (decides_itself c)

-- the numbers from a on, so many of them
decides_all_from : (p : ℕ → Bool) (a n : ℕ) → Decides (list_all p (range_with_len a n)) ((k : ℕ) → a ≤ k → k < a + n → p k ≡ true)
decides_all_from p a zero = (λ _ k from below. absurd (omega arith), λ _. refl)
decides_all_from p a (suc n) =
    let rest = decides_all_from p (a + 1) n in (
      λ e k from below.
          let parts = and_parts (p a) _ e in
          ⊎_elim (λ later. rest.0 parts.1 k (omega arith) (omega arith)) (λ here. let is : a ≡ k = omega arith in subst (λ j. p j ≡ true) is parts.0) (cases_lt a k),
      λ each. and_from (p a) _ (each a (omega arith) (omega arith)) (rest.1 (λ k from below. each k (omega arith) (omega arith))),
    )

decides_any_from : (p : ℕ → Bool) (a n : ℕ) → Decides (list_any p (range_with_len a n)) ((k : ℕ) × (a ≤ k) × (k < a + n) × (p k ≡ true))
decides_any_from p a zero = (λ e. absurd (false≢true e), λ w. absurd (let f = w.1 in let b = w.2 in omega arith))
decides_any_from p a (suc n) =
    let rest = decides_any_from p (a + 1) n in (
      λ e. ⊎_elim
          (λ here. (a, omega arith, omega arith, here))
          (λ later. let w = rest.0 later in (w.0, let f = w.1 in omega arith, let b = w.2 in omega arith, w.3))
          (or_cases (p a) _ e),
      λ w. ⊎_elim
          (λ later. or_right (p a) _ (rest.1 (w.0, omega arith, let b = w.2 in omega arith, w.3)))
          (λ here. or_left (p a) _ (let f = w.1 in let is : w.0 ≡ a = omega arith in subst (λ j. p j ≡ true) is w.3))
          (cases_lt a w.0),
    )

pub decides_all : (p : ℕ → Bool) (n : ℕ) → Decides (all_below p n) ((k : ℕ) → k < n → p k ≡ true)
decides_all p n = (λ e k lt. (decides_all_from p 0 n).0 e k (omega arith) (omega arith), λ each. (decides_all_from p 0 n).1 (λ k _ below. each k (omega arith)))

pub decides_any : (p : ℕ → Bool) (n : ℕ) → Decides (any_below p n) ((k : ℕ) × (k < n) × (p k ≡ true))
decides_any p n = (
  λ e. let w = (decides_any_from p 0 n).0 e in (w.0, let b = w.2 in omega arith, w.3),
  λ w. (decides_any_from p 0 n).1 (w.0, omega arith, let b = w.1 in omega arith, w.2),
)

-- where p fails at every number below n, no number below n passes
pub any_from_none : (p : ℕ → Bool) (n : ℕ) → ((k : ℕ) → k < n → p k ≡ false) → any_below p n ≡ false
any_from_none p n none = false_from_ne_true (any_below p n) (λ e. let w = (decides_any p n).0 e in both_ways (p w.0) (none w.0 w.1) w.2)

-- where p holds at a number below n, it holds at some
pub any_from_one : (p : ℕ → Bool) (n k : ℕ) → k < n → p k ≡ true → any_below p n ≡ true
any_from_one p n k lt holds = (decides_any p n).1 (k, lt, holds)

-- where p holds at every number below n, all pass; where it fails at one, not all do
pub all_from_each : (p : ℕ → Bool) (n : ℕ) → ((k : ℕ) → k < n → p k ≡ true) → all_below p n ≡ true
all_from_each p n each = (decides_all p n).1 each

pub all_from_one : (p : ℕ → Bool) (n k : ℕ) → k < n → p k ≡ false → all_below p n ≡ false
all_from_one p n k lt fails = false_from_ne_true (all_below p n) (λ e. both_ways (p k) fails ((decides_all p n).0 e k lt))
