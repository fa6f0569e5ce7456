-- What a plant means. Assumes nothing.
use Rattle.std.specs.Prelude.{◌≡◌, ℕ, ◌^◌, ◌<◌, ◌≤◌, Bool, true}

-- two sizes, the starts, the safe pairs (state, setting) and the followings (state, setting, next state)
pub record Meaning : Type 0 where
  pub bits : ℕ
  pub lines : ℕ
  pub start : ℕ → Bool
  pub safe : ℕ → ℕ → Bool
  pub follows : ℕ → ℕ → ℕ → Bool

-- how many states there are
abbrev pub states : Meaning → ℕ
states m = 2 ^ m.bits

-- how many settings there are
abbrev pub settings : Meaning → ℕ
settings m = 2 ^ m.lines

-- the most state bits
abbrev pub most_bits : ℕ
most_bits = 8

-- the most drive lines
abbrev pub most_lines : ℕ
most_lines = 4

-- the sizes lie within their limits, and only numbers below them are starts, safe or followings
pub record Within (m : Meaning) : Type 0 where
  pub some_bits : 1 ≤ m.bits
  pub few_bits : m.bits ≤ most_bits
  pub some_lines : 1 ≤ m.lines
  pub few_lines : m.lines ≤ most_lines
  pub start_state : (t : ℕ) → m.start t ≡ true → t < states m
  pub safe_state : (s a : ℕ) → m.safe s a ≡ true → s < states m
  pub safe_setting : (s a : ℕ) → m.safe s a ≡ true → a < settings m
  pub from_state : (s a t : ℕ) → m.follows s a t ≡ true → s < states m
  pub from_setting : (s a t : ℕ) → m.follows s a t ≡ true → a < settings m
  pub to_state : (s a t : ℕ) → m.follows s a t ≡ true → t < states m
