-- Safe assignments and the lasting sets of their states. Assumes nothing.
use Rattle.std.proofs.Common.{◌≡◌, ℕ, Bool, true, ◌&&◌, ◌||◌, eqb, Decides, sym, refl, subst₂, ⊎_elim}
use Rattle.std.proofs.lemmas.Bool.{and_parts, and_from, or_cases, or_left, or_right, eqb-true, eq-eqb}
use Rattle.plant.specs.Bounded.{any_below}
use Rattle.plant.specs.Lasting.{SafeAssignment, Largest, Lasting, Stays, Open}
use Rattle.plant.specs.Meaning.{Meaning, Within, settings}
use Rattle.plant.specs.Staying.{stays}
use Rattle.plant.proofs.Bounded.{decides_any, any_from_one}
use Rattle.plant.proofs.Staying.{stays_decides}

-- the states that have a setting in K
abbrev pub states_of : Meaning → (ℕ → ℕ → Bool) → ℕ → Bool
states_of m K s = any_below (K s) (settings m)

module _ (m : Meaning) (within : Within m) where
  pub state_of : (K : ℕ → ℕ → Bool) → SafeAssignment m K → (s a : ℕ) → K s a ≡ true → states_of m K s ≡ true
  state_of K safe s a e = any_from_one (K s) (settings m) a (within.safe_setting s a (safe.safe s a e)) e

  -- a state that follows a pair of K has a setting in K
  pub state_after : (K : ℕ → ℕ → Bool) → SafeAssignment m K → (s a t : ℕ) → K s a ≡ true → m.follows s a t ≡ true → states_of m K t ≡ true
  state_after K safe s a t e f = let b = safe.again s a t e f in state_of K safe t b.0 b.1

  -- the states that have a setting in a safe assignment are a lasting set
  pub states_last : (K : ℕ → ℕ → Bool) → SafeAssignment m K → Lasting m (states_of m K)
  states_last K safe s e =
      let w = (decides_any (K s) (settings m)).0 e in
      let a = w.0 in
      (a, (safe.safe s a w.2, λ t f. state_after K safe s a t w.2 f))

  -- one pair that leads into a lasting set, and all that stay in it
  with_pair : (ℕ → Bool) → ℕ → ℕ → ℕ → ℕ → Bool
  with_pair L s a x y = (eqb x s && eqb y a) || (L x && stays m L x y)

  with_pair_stays : (L : ℕ → Bool) (s a : ℕ) → Stays m L s a → (x y : ℕ) → with_pair L s a x y ≡ true → Stays m L x y
  unfolding with_pair
  with_pair_stays L s a h x y e =
      ⊎_elim
      (λ is. let p = and_parts (eqb x s) (eqb y a) is in subst₂ (λ k j. Stays m L k j) (sym (eqb-true x s p.0)) (sym (eqb-true y a p.1)) h)
      (λ in_L. (stays_decides m within L x y).0 (and_parts (L x) (stays m L x y) in_L).1)
      (or_cases (eqb x s && eqb y a) (L x && stays m L x y) e)

  with_pair_safe : (L : ℕ → Bool) → Lasting m L → (s a : ℕ) → Stays m L s a → SafeAssignment m (with_pair L s a)
  unfolding with_pair
  with_pair_safe L lasts s a h = record {
    safe = λ x y e. (with_pair_stays L s a h x y e).0;
    again = λ x y t e f.
        let held = (with_pair_stays L s a h x y e).1 t f in
        let w = lasts t held in
        (w.0, or_right (eqb t s && eqb w.0 a) _ (and_from (L t) _ held ((stays_decides m within L t w.0).1 w.1)));
  }

  -- the largest safe assignment has just the pairs that are safe and lead only into some lasting set
  pub largest_open : (H : ℕ → ℕ → Bool) → Largest m H → (s a : ℕ) → Decides (H s a) (Open m s a)
  unfolding with_pair
  largest_open H largest s a = (
    λ e. (largest.sound.safe s a e, (states_of m H, states_last H largest.sound, λ t f. state_after H largest.sound s a t e f)),
    λ o.
        let L = o.1.0 in
        let h : Stays m L s a = (o.0, o.1.2) in
        largest.all (with_pair L s a) (with_pair_safe L o.1.1 s a h) s a
        (or_left (eqb s s && eqb a a) _ (and_from (eqb s s) (eqb a a) (eq-eqb s s refl) (eq-eqb a a refl))),
  )
