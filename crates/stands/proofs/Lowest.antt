-- The lowest setting that fits. Assumes nothing.
use Rattle.std.proofs.Common.{◌≡◌, ℕ, ◌<◌, Some, None, Option, true, false, List, refl}
use Rattle.std.specs.List.{find, range_with_len}
use Rattle.std.specs.Option.{MatchOption, option_map}
use Rattle.std.proofs.lemmas.Bool.{both_ways}
use Rattle.plant.specs.Meaning.{Meaning, settings}
use Rattle.plant.proofs.Firsts.{found_below}
use Rattle.reader.specs.Step.{fits_there}
use Rattle.rules.specs.declared.Rule.{Rule}
use Rattle.stands.specs.Suggestion.{LowestFit, NoneFits}

module _ (m : Meaning) (rs : List Rule) (s : ℕ) where
  -- what `find` over the settings answers: the lowest that fits, or that none does
  pub lowest_found : (r : Option ℕ) → option_map (λ k. k) r ≡ find (fits_there m rs s) (range_with_len 0 (settings m)) → MatchOption r (NoneFits m rs s) (λ a. LowestFit m rs s a)
  lowest_found r e = of_answer r (found_below (fits_there m rs s) (settings m) r e)
    where
      of_answer : (r : Option ℕ) → MatchOption r (NoneFits m rs s) (λ i. (i < settings m) × (fits_there m rs s i ≡ true) × ((k : ℕ) → k < i → fits_there m rs s k ≡ false)) → MatchOption r (NoneFits m rs s) (λ a. LowestFit m rs s a)
      of_answer None none = none
      of_answer (Some a) h = record { setting = h.0; fits = h.1; lowest = h.2 }

  -- where a setting fits, there is a lowest that does
  pub lowest_fit : (a : ℕ) → a < settings m → fits_there m rs s a ≡ true → (b : ℕ) × LowestFit m rs s b
  lowest_fit a small fits = of_answer lowest (lowest_found lowest (unchanged lowest))
    where
      lowest : Option ℕ
      lowest = find (fits_there m rs s) (range_with_len 0 (settings m))

      unchanged : (o : Option ℕ) → option_map (λ k. k) o ≡ o
      unchanged None = refl
      unchanged (Some k) = refl

      of_answer : (r : Option ℕ) → MatchOption r (NoneFits m rs s) (λ b. LowestFit m rs s b) → (b : ℕ) × LowestFit m rs s b
      of_answer None none = absurd (both_ways (fits_there m rs s a) (none a small) fits)
      of_answer (Some b) h = (b, h)
