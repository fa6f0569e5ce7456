-- What can be kept safe for ever: safe assignments of settings, and lasting sets of states.
-- A set of states is a test `ℕ → Bool`, a set of pairs (state, setting) a test `ℕ → ℕ → Bool`. Assumes nothing.
use Rattle.std.specs.Prelude.{◌≡◌, ℕ, Bool, true}
use Rattle.plant.specs.Meaning.{Meaning}

-- each pair of H is safe, and each state that follows one has a setting in H again
pub record SafeAssignment (m : Meaning) (H : ℕ → ℕ → Bool) : Type 0 where
  pub safe : (s a : ℕ) → H s a ≡ true → m.safe s a ≡ true
  pub again : (s a t : ℕ) → H s a ≡ true → m.follows s a t ≡ true → (b : ℕ) × (H t b ≡ true)

-- H is a safe assignment, and has every pair of each other one
pub record Largest (m : Meaning) (H : ℕ → ℕ → Bool) : Type 0 where
  pub sound : SafeAssignment m H
  pub all : (K : ℕ → ℕ → Bool) → SafeAssignment m K → (s a : ℕ) → K s a ≡ true → H s a ≡ true

-- setting a is safe in state s and leads only to states of L
abbrev pub Stays : Meaning → (ℕ → Bool) → ℕ → ℕ → Type 0
Stays m L s a = (m.safe s a ≡ true) × ((t : ℕ) → m.follows s a t ≡ true → L t ≡ true)

-- each state of L has a setting that is safe there and leads only to states of L
abbrev pub Lasting : Meaning → (ℕ → Bool) → Type 0
Lasting m L = (s : ℕ) → L s ≡ true → (a : ℕ) × Stays m L s a

-- L holds every start
abbrev pub HoldsStarts : Meaning → (ℕ → Bool) → Type 0
HoldsStarts m L = (t : ℕ) → m.start t ≡ true → L t ≡ true

-- no lasting set holds every start: no rule for the drive lines can keep the machine safe
abbrev pub Hopeless : Meaning → Type 0
Hopeless m = (L : ℕ → Bool) → Lasting m L → HoldsStarts m L → ⊥

-- (s, a) is safe, and some lasting set holds all the states that can follow it
abbrev pub Open : Meaning → ℕ → ℕ → Type 0
Open m s a = (m.safe s a ≡ true) × ((L : ℕ → Bool) × Lasting m L × ((t : ℕ) → m.follows s a t ≡ true → L t ≡ true))
