-- How many rules there can be. Assumes nothing.
use Rattle.std.specs.Prelude.{ℕ, ◌-◌, ◌*◌, ◌^◌}
use Rattle.plant.specs.Meaning.{most_bits, most_lines}

-- the most rules: one for each state, line and prefix
abbrev pub most_rules : ℕ
most_rules = 2 ^ most_bits * (2 ^ most_lines - 1)
