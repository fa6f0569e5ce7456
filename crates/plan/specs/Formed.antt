-- What an admitted plan holds is well-formed. Assumes nothing.
use Rattle.std.specs.Prelude.{◌≡◌, ℕ, ◌+◌, ◌^◌, ◌<◌, ◌≤◌, true}
use mathlib.Core.List.{Memᴰ}
use Rattle.plan.specs.Items.{always}
use Rattle.plan.specs.Machine.{Parts}
use Rattle.plan.specs.Sizes.{sizes_fit}
use Rattle.plan.specs.declared.clause.Clause.{Clause}
use Rattle.plant.specs.declared.condition.Condition.{Condition}

-- how many letters there are
abbrev pub letters : Parts → ℕ
letters p = p.bits + p.lines + p.auxiliaries

-- the masks of the condition are within the letters
abbrev pub WithinLetters : Parts → Condition → Type 0
WithinLetters p c = (c.ones < 2 ^ letters p) × (c.zeros < 2 ^ letters p)

-- sizes within their limits; start and next clauses for state bits, auxiliary clauses for auxiliaries; masks within the letters
pub record WellFormed (p : Parts) : Type 0 where
  pub sizes : sizes_fit p.bits p.lines p.auxiliaries ≡ true
  pub starts : (c : Clause) → Memᴰ c p.starts → (c.letter < p.bits) × (c.condition ≡ always)
  pub nexts : (c : Clause) → Memᴰ c p.nexts → (c.letter < p.bits) × WithinLetters p c.condition
  pub auxes : (c : Clause) → Memᴰ c p.auxes → (p.bits + p.lines ≤ c.letter) × (c.letter < letters p) × WithinLetters p c.condition
  pub bans : (c : Condition) → Memᴰ c p.bans → WithinLetters p c
