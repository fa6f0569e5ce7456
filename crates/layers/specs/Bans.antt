-- Bans over the letters of a pair: the state bits first, then the lines. Assumes nothing.
use Rattle.std.specs.Prelude.{◌≡◌, ℕ, ◌+◌, ◌-◌, ◌<◌, ◌≤◌, Bool, true, false, cond, ◌⊎◌, List, length, nat_lt, slice_index_or}
use mathlib.Core.List.{Memᴰ}
use Rattle.plant.specs.Bits.{bit}
use Rattle.plant.specs.declared.condition.Condition.{Condition}

-- the most bans of one layer
abbrev pub most_bans : ℕ
most_bans = 16

-- letter i of the pair (s, a) where there are b state bits: state bit i, or line i - b
abbrev pub letter : ℕ → ℕ → ℕ → ℕ → Bool
letter b s a i = cond (nat_lt i b) (bit s i) (bit a (i - b))

-- the ban is true of the pair: each letter of its ones is 1, each letter of its zeros is 0
pub record TrueOf (b : ℕ) (ban : Condition) (s a : ℕ) : Type 0 where
  pub on : (i : ℕ) → bit ban.ones i ≡ true → letter b s a i ≡ true
  pub off : (i : ℕ) → bit ban.zeros i ≡ true → letter b s a i ≡ false

-- the ban has a letter past the b state bits and n lines
abbrev pub Beyond : ℕ → ℕ → Condition → Type 0
Beyond b n ban = (i : ℕ) × (b + n ≤ i) × ((bit ban.ones i ≡ true) ⊎ (bit ban.zeros i ≡ true))

-- no ban of the list has
abbrev pub AllWithin : ℕ → ℕ → List Condition → Type 0
AllWithin b n bans = (ban : Condition) → Memᴰ ban bans → Beyond b n ban → ⊥

-- the ban at i has, and no ban before it
pub record FirstBeyond (b n : ℕ) (bans : List Condition) (i : ℕ) : Type 0 where
  pub inside : i < length bans
  pub beyond : (d : Condition) → Beyond b n (slice_index_or bans i d)
  pub first : (k : ℕ) (d : Condition) → k < i → Beyond b n (slice_index_or bans k d) → ⊥
