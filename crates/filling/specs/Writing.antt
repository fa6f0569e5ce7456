-- A list written into lent places. Assumes nothing.
use Rattle.std.specs.Prelude.{◌≡◌, ℕ, ◌+◌, List, ◌++◌, length, take, drop}

-- xs was written from place `at` up to `end`, and the other places are as before
pub record Wrote {X : Type 0} (before after : List X) (at end : ℕ) (xs : List X) : Type 0 where
  pub ends : end ≡ at + length xs
  pub places : after ≡ take at before ++ (xs ++ drop end before)
