-- How much of an input decides its sheet, and the memory that a sheet is made in. Assumes nothing.
use Rattle.std.specs.Prelude.{ℕ, ◌^◌}
use Rattle.plant.specs.Meaning.{most_bits}
use Rattle.rules.specs.Limits.{most_rules}

-- so many first bytes of an input decide what becomes of it
abbrev pub input_needed : ℕ
input_needed = 2048

-- the least number of bytes for the text
abbrev pub text_needed : ℕ
text_needed = 8192

-- the number of rows: one for each state of the largest plant
abbrev pub rows_needed : ℕ
rows_needed = 2 ^ most_bits

-- the number of places for rules: as many as the draft of the largest plant may need
abbrev pub rules_needed : ℕ
rules_needed = most_rules
