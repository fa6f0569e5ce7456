-- Which letters a letter depends on. Assumes nothing.
use Rattle.std.specs.Prelude.{◌≡◌, ℕ, true, ◌⊎◌, List}
use mathlib.Core.List.{Memᴰ}
use Rattle.plant.specs.Bits.{bit}
use Rattle.plan.specs.declared.clause.Clause.{Clause}

-- some clause for l has k in its condition, among the ones or among the zeros
pub record Names (cs : List Clause) (l k : ℕ) : Type 0 where
  pub clause : Clause
  pub here : Memᴰ clause cs
  pub own : clause.letter ≡ l
  pub named : (bit clause.condition.ones k ≡ true) ⊎ (bit clause.condition.zeros k ≡ true)

-- l depends on the letters in conditions of its own clauses, and on those in conditions of theirs, and so on
pub data Depends (cs : List Clause) (l : ℕ) : ℕ → Type 0 where
  directly : {k : ℕ} → Names cs l k → Depends cs l k
  through : {k j : ℕ} → Depends cs l k → Names cs k j → Depends cs l j

-- no letter depends on itself
abbrev pub LoopFree : List Clause → Type 0
LoopFree cs = (l : ℕ) → Depends cs l l → ⊥
