-- The sizes of a plan. Assumes nothing.
use Rattle.std.specs.Prelude.{ℕ, Bool, ◌&&◌, nat_le}
use Rattle.plant.specs.Sizes.{sizes_fit as pair_fits}

-- the most auxiliaries
abbrev pub most_auxiliaries : ℕ
most_auxiliaries = 8

-- the sizes are within their limits
abbrev pub sizes_fit : ℕ → ℕ → ℕ → Bool
sizes_fit b n m = pair_fits b n && nat_le m most_auxiliaries
