-- What a stand suggests. Assumes nothing.
use Rattle.std.specs.Prelude.{◌≡◌, ℕ, ◌<◌, true, false, List, Some, None, Option}
use Rattle.plant.specs.Meaning.{Meaning, settings}
use Rattle.reader.specs.Step.{fits_there}
use Rattle.rules.specs.declared.Rule.{Rule}

-- setting a fits in state s, and no lower setting does
pub record LowestFit (m : Meaning) (rs : List Rule) (s a : ℕ) : Type 0 where
  pub setting : a < settings m
  pub fits : fits_there m rs s a ≡ true
  pub lowest : (k : ℕ) → k < a → fits_there m rs s k ≡ false

-- no setting fits in state s
abbrev pub NoneFits : Meaning → List Rule → ℕ → Type 0
NoneFits m rs s = (k : ℕ) → k < settings m → fits_there m rs s k ≡ false

-- the suggestion is a exactly where a is the lowest setting that fits, and absent exactly where none fits
pub record Suggests (m : Meaning) (rs : List Rule) (s : ℕ) (r : Option ℕ) : Type 0 where
  pub only : (a : ℕ) → r ≡ Some a → LowestFit m rs s a
  pub where_lowest : (a : ℕ) → LowestFit m rs s a → r ≡ Some a
  pub absent : r ≡ None → NoneFits m rs s
  pub where_none : NoneFits m rs s → r ≡ None
