-- Clauses over a word of letters. Assumes nothing.
use Rattle.std.specs.Prelude.{◌≡◌, ℕ, Bool, not, ◌||◌}
use Rattle.plant.specs.Bits.{bit}
use Rattle.plant.specs.Conditions.{holds, Holds}
use Rattle.plant.specs.Tests.{same}
use Rattle.plan.specs.declared.clause.Clause.{Clause}

-- whether the clause is true: where its condition holds, its letter has its value
abbrev pub clause_true : ℕ → Clause → Bool
clause_true w c = not (holds c.condition w) || same (bit w c.letter) c.value

-- the same in words
abbrev pub ClauseTrue : ℕ → Clause → Type 0
ClauseTrue w c = Holds c.condition w → bit w c.letter ≡ c.value
