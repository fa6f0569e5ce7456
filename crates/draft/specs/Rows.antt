-- The rows of a draft, as a list that computes. Assumes nothing.
use Rattle.std.specs.Prelude.{ℕ, ◌-◌, ◌*◌, ◌%◌, ◌^◌, Bool, List, bit_or, map, slice_index}
use Rattle.std.specs.List.{range_with_len}
use Rattle.plant.specs.Bits.{bit, pack}
use Rattle.plant.specs.Meaning.{Meaning, most_lines, states, settings}
use Rattle.sweep.specs.Greatest.{held_in, lasting_states}
use Rattle.plant.specs.Staying.{stays}

-- the row with one setting more open: its bit is raised, within the width of a row
abbrev pub with_open : ℕ → ℕ → ℕ
with_open row a = bit_or row ((1 * 2 ^ a) % 2 ^ (2 ^ most_lines))

-- row s: bit a is 1 where setting a is safe in s and leads only to states whose flag is up
abbrev pub row_from : Meaning → List Bool → ℕ → ℕ
row_from m held s = pack (stays m (held_in held) s) (settings m)

-- a row for each state
abbrev pub rows_from : Meaning → List Bool → List ℕ
rows_from m held = map (row_from m held) (range_with_len 0 (states m))

-- the rows of the draft: the settings that lead only to states that last
abbrev pub rows_of : Meaning → List ℕ
rows_of m = rows_from m (lasting_states m)

-- the pairs (state, setting) that the rows have open
abbrev pub open_in : List ℕ → ℕ → ℕ → Bool
open_in rows s a = bit (slice_index rows s) a

-- how many places for rules a draft may need
abbrev pub places_needed : Meaning → ℕ
places_needed m = states m * (settings m - 1)
