-- What bans make of the plant below. Assumes nothing.
use Rattle.std.specs.Prelude.{◌≡◌, ℕ, true, not, ◌&&◌, List, Decides}
use mathlib.Core.List.{Memᴰ}
use Rattle.plant.specs.Conditions.{holds, pair_word}
use Rattle.plant.specs.Meaning.{Meaning}
use Rattle.std.specs.List.{list_any}
use Rattle.plant.specs.declared.condition.Condition.{Condition}
use Rattle.layers.specs.Bans.{TrueOf}

-- a pair is safe where it is safe below and no ban is true of it; all else is as below
abbrev pub banned_meaning : Meaning → List Condition → Meaning
banned_meaning m bans = record {
  bits = m.bits;
  lines = m.lines;
  start = m.start;
  safe = λ s a. m.safe s a && not (list_any (λ ban. holds ban (pair_word m.bits s a)) bans);
  follows = m.follows;
}

-- the same in words
pub record BannedWords (m : Meaning) (bans : List Condition) (above : Meaning) : Type 0 where
  pub bits : above.bits ≡ m.bits
  pub lines : above.lines ≡ m.lines
  pub start : (t : ℕ) → above.start t ≡ m.start t
  pub safe : (s a : ℕ) → Decides (above.safe s a) ((m.safe s a ≡ true) × ((ban : Condition) → Memᴰ ban bans → TrueOf m.bits ban s a → ⊥))
  pub follows : (s a t : ℕ) → above.follows s a t ≡ m.follows s a t
