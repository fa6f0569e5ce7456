-- Whether a setting keeps the machine within a set of states, as tests that compute. Assumes nothing.
use Rattle.std.specs.Prelude.{ℕ, Bool, not, ◌&&◌, ◌||◌}
use Rattle.plant.specs.Bounded.{all_below, any_below}
use Rattle.plant.specs.Meaning.{Meaning, states, settings}

-- whether setting a is safe in state s and leads only to states of L
abbrev pub stays : Meaning → (ℕ → Bool) → ℕ → ℕ → Bool
stays m L s a = m.safe s a && all_below (λ t. not (m.follows s a t) || L t) (states m)

-- whether some setting of state s is safe and leads only to states of L
abbrev pub can_stay : Meaning → (ℕ → Bool) → ℕ → Bool
can_stay m L s = any_below (λ a. stays m L s a) (settings m)
