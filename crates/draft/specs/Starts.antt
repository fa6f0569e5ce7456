-- The starts and their rows. Assumes nothing.
use Rattle.std.specs.Prelude.{◌≡◌, ℕ, ◌<◌, true, List, ◌≢◌, slice_index, slice_index_or}
use Rattle.plant.specs.Meaning.{Meaning}

-- no start has an empty row
abbrev pub AllOpen : Meaning → List ℕ → Type 0
AllOpen m rows = (k : ℕ) → m.start k ≡ true → slice_index rows k ≢ 0

-- start t has an empty row, and no lower start has one
pub record Lost (m : Meaning) (rows : List ℕ) (t : ℕ) : Type 0 where
  pub start : m.start t ≡ true
  pub empty : slice_index_or rows t 0 ≡ 0
  pub lowest : (k : ℕ) → k < t → m.start k ≡ true → slice_index rows k ≢ 0
