-- Tests over the numbers below a bound. Assumes nothing.
use Rattle.std.specs.Prelude.{ℕ, Bool}
use Rattle.std.specs.List.{list_all, list_any, range_with_len}

-- whether p holds of every number below the bound
abbrev pub all_below : (ℕ → Bool) → ℕ → Bool
all_below p n = list_all p (range_with_len 0 n)

-- whether p holds of some number below the bound
abbrev pub any_below : (ℕ → Bool) → ℕ → Bool
any_below p n = list_any p (range_with_len 0 n)
