-- What one sweep in place does to the flags. Assumes nothing.
use Rattle.std.specs.Prelude.{◌≡◌, ℕ, zero, suc, ◌<◌, Bool, true, false, List, [], ◌∷◌}
use Rattle.plant.specs.Meaning.{Meaning}
use Rattle.plant.specs.Lasting.{Lasting}
use Rattle.sweep.specs.Greatest.{held_in}

-- how many flags are up
abbrev pub up : List Bool → ℕ
up [] = zero
up (true ∷ flags) = suc (up flags)
up (false ∷ flags) = up flags

-- every state of L has its flag up
abbrev pub Inside : (ℕ → Bool) → List Bool → Type 0
Inside L held = (s : ℕ) → L s ≡ true → held_in held s ≡ true

-- no state of a lasting set is lost; a flag was lowered, or the flags are those of a lasting set
pub record Swept (m : Meaning) (before after : List Bool) (changed : Bool) : Type 0 where
  pub keeps : (L : ℕ → Bool) → Lasting m L → Inside L before → Inside L after
  pub fewer : changed ≡ true → up after < up before
  pub settled : changed ≡ false → (after ≡ before) × Lasting m (held_in after)
