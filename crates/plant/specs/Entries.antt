-- Which entries of the lists that plants are made from lie within the sizes. Assumes nothing.
use Rattle.std.specs.Prelude.{ℕ, ◌+◌, Bool, nat_lt}
use Rattle.plant.specs.Conditions.{masks_below}
use Rattle.plant.specs.declared.condition.Condition.{Condition}

-- a start below the number of states
abbrev pub start_fits : ℕ → ℕ → ℕ → Bool
start_fits states settings t = nat_lt t states

-- both masks of a ban within the letters, as a test that computes
abbrev pub ban_fits : ℕ → ℕ → Condition → Bool
ban_fits b n ban = masks_below (b + n) ban
