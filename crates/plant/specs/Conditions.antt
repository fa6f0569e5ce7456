-- Conditions over a word of letters. Assumes nothing.
use Rattle.std.specs.Prelude.{◌≡◌, ℕ, ◌+◌, ◌*◌, ◌^◌, Bool, true, false, ◌&&◌, ◌==◌, bit_and, nat_lt}
use Rattle.plant.specs.Bits.{bit}
use Rattle.plant.specs.declared.condition.Condition.{Condition}

-- whether each letter of ones is 1 in the word, and each letter of zeros is 0
abbrev pub holds : Condition → ℕ → Bool
holds c w = bit_and w c.ones == c.ones && bit_and w c.zeros == 0

-- the same in words
pub record Holds (c : Condition) (w : ℕ) : Type 0 where
  pub on : (i : ℕ) → bit c.ones i ≡ true → bit w i ≡ true
  pub off : (i : ℕ) → bit c.zeros i ≡ true → bit w i ≡ false

-- whether no letter of either mask lies past so many
abbrev pub masks_below : ℕ → Condition → Bool
masks_below k c = nat_lt c.ones (2 ^ k) && nat_lt c.zeros (2 ^ k)

-- the word of a state and a setting where there are b state bits: state bits lowest, then lines
abbrev pub pair_word : ℕ → ℕ → ℕ → ℕ
pair_word b s a = a * 2 ^ b + s
