-- Whether two sizes are within the limits. Assumes nothing.
use Rattle.std.specs.Prelude.{ℕ, ◌≤◌, Bool, ◌&&◌, nat_le}
use Rattle.plant.specs.Meaning.{most_bits, most_lines}

-- a state bit at least, a line at least, and no more of either than there may be
abbrev pub sizes_fit : ℕ → ℕ → Bool
sizes_fit b n = (nat_le 1 b && nat_le b most_bits) && (nat_le 1 n && nat_le n most_lines)

-- the same in words
pub record Limits (b n : ℕ) : Type 0 where
  pub some_bits : 1 ≤ b
  pub few_bits : b ≤ most_bits
  pub some_lines : 1 ≤ n
  pub few_lines : n ≤ most_lines
