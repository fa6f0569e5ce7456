-- Tests over truth values and lists. Assumes nothing.
use Rattle.std.specs.Prelude.{◌≡◌, ℕ, ◌<◌, Bool, true, false, not, List, length, slice_index_or}

-- whether two truth values are the same
abbrev pub same : Bool → Bool → Bool
same true v = v
same false v = not v

-- the element at i fails p, and no element before it does
pub record FirstMisfit {X : Type 0} (p : X → Bool) (xs : List X) (i : ℕ) : Type 0 where
  pub inside : i < length xs
  pub fails : (d : X) → p (slice_index_or xs i d) ≡ false
  pub first : (k : ℕ) (d : X) → k < i → p (slice_index_or xs k d) ≡ true
