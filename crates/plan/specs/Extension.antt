-- Extensions of a pair, and what the next clauses force in one. Assumes nothing.
use Rattle.std.specs.Prelude.{ℕ, ◌+◌, ◌*◌, ◌^◌, Bool, cond, List, bit_or, nat_lt}
use Rattle.plant.specs.Conditions.{holds}
use Rattle.plant.specs.declared.condition.Condition.{Condition}
use Rattle.std.specs.List.{filter, fold}
use Rattle.plan.specs.declared.clause.Clause.{Clause}

-- the word of a state, a setting and an assignment of the auxiliaries: state bits lowest, then lines, then auxiliaries
abbrev pub word_of : ℕ → ℕ → ℕ → ℕ → ℕ → ℕ
word_of b n s a x = x * 2 ^ (b + n) + (a * 2 ^ b + s)

-- the mask that has one letter
abbrev pub letter_mask : ℕ → ℕ
letter_mask l = cond (nat_lt l 32) (2 ^ l) 0

-- the condition with one letter more: among its ones, or among its zeros
abbrev pub with_letter : Bool → ℕ → Condition → Condition
with_letter v l d = cond v (record { ones = bit_or d.ones (letter_mask l); zeros = d.zeros }) (record { ones = d.ones; zeros = bit_or d.zeros (letter_mask l) })

-- the bits forced to one and to zero by the clauses whose condition holds in the word, beside those of the condition
abbrev pub forced : ℕ → List Clause → Condition → Condition
forced w cs d = fold (λ e c. with_letter c.value c.letter e) d (filter (λ (c : Clause). holds c.condition w) cs)
