-- The greatest lasting set: by its property, and as a list that computes. Assumes nothing.
use Rattle.std.specs.Prelude.{◌≡◌, ℕ, zero, suc, Bool, true, false, ◌&&◌, List, map, length, replicate, slice_index_or}
use Rattle.std.specs.List.{range_with_len}
use Rattle.plant.specs.Meaning.{Meaning, states}
use Rattle.plant.specs.Lasting.{Lasting}
use Rattle.plant.specs.Staying.{can_stay}

-- the set of the states whose flag is up
abbrev pub held_in : List Bool → ℕ → Bool
held_in held s = slice_index_or held s false

-- the flags of the greatest lasting set: it is lasting, and has every state of each other lasting set
pub record Greatest (m : Meaning) (held : List Bool) : Type 0 where
  pub size : length held ≡ states m
  pub lasts : Lasting m (held_in held)
  pub all : (L : ℕ → Bool) → Lasting m L → (s : ℕ) → L s ≡ true → held_in held s ≡ true

-- one sweep: the flags of the states that can stay among those whose flag is up
abbrev pub swept : Meaning → List Bool → List Bool
swept m held = map (λ s. held_in held s && can_stay m (held_in held) s) (range_with_len 0 (states m))

-- so many sweeps
abbrev pub sweeps : Meaning → ℕ → List Bool → List Bool
sweeps m zero held = held
sweeps m (suc n) held = sweeps m n (swept m held)

-- the flags of the states that last: as many sweeps as there are states, from all flags up
abbrev pub lasting_states : Meaning → List Bool
lasting_states m = sweeps m (states m) (replicate (states m) true)
