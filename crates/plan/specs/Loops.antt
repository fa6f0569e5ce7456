-- Which auxiliary depends on itself. Assumes nothing.
use Rattle.std.specs.Prelude.{ℕ, zero, suc, cond, List, Option, ◌==◌, bit_or}
use Rattle.std.specs.List.{filter, find, fold, range_with_len}
use Rattle.plant.specs.Bits.{bit}
use Rattle.plan.specs.Extension.{letter_mask}
use Rattle.plan.specs.declared.clause.Clause.{Clause}

-- the letters found so far, and those in conditions of clauses for the letters of roots
abbrev pub gathered : List Clause → ℕ → ℕ → ℕ
gathered cs roots found = fold (λ all c. bit_or all (bit_or c.condition.ones c.condition.zeros)) found (filter (λ (c : Clause). bit roots c.letter) cs)

-- gathered again, until a round finds no more, or so many times
abbrev pub further : List Clause → ℕ → ℕ → ℕ
further cs zero found = found
further cs (suc n) found = cond (gathered cs found found == found) found (further cs n (gathered cs found found))

-- the letters that a letter depends on
abbrev pub reached : List Clause → ℕ → ℕ → ℕ
reached cs rounds letter = further cs rounds (gathered cs (letter_mask letter) 0)

-- the lowest of so many letters that depends on itself
abbrev pub first_loop : List Clause → ℕ → ℕ → ℕ → Option ℕ
first_loop cs rounds from n = find (λ l. bit (reached cs rounds l) l) (range_with_len from n)
