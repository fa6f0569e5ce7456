-- The tests whether a setting keeps within a set of states, in words. Assumes nothing.
use Rattle.std.proofs.Common.{◌≡◌, ℕ, Bool, true, false, not, ◌||◌, Decides, refl}
use Rattle.std.proofs.lemmas.Bool.{and_parts, and_from, false≢true}
use Rattle.plant.specs.Meaning.{Meaning, Within, states, settings}
use Rattle.plant.specs.Lasting.{Stays}
use Rattle.plant.specs.Bounded.{all_below}
use Rattle.plant.proofs.Bounded.{decides_all, decides_any}
use Rattle.plant.specs.Staying.{stays, can_stay}

implied : (b c : Bool) → (not b || c) ≡ true → b ≡ true → c ≡ true
implied true c e _ = e
implied false c e f = absurd (false≢true f)

implies : (b c : Bool) → (b ≡ true → c ≡ true) → (not b || c) ≡ true
implies true c f = f refl
implies false c f = refl

module _ (m : Meaning) (within : Within m) (L : ℕ → Bool) where
  pub stays_decides : (s a : ℕ) → Decides (stays m L s a) (Stays m L s a)
  stays_decides s a =
      let p : ℕ → Bool = λ t. not (m.follows s a t) || L t in
      let d = decides_all p (states m) in (
        λ e.
            let parts = and_parts (m.safe s a) (all_below p (states m)) e in
            (parts.0, λ t f. implied (m.follows s a t) (L t) (d.0 parts.1 t (within.to_state s a t f)) f),
        λ h.
            and_from (m.safe s a) (all_below p (states m)) h.0
            (d.1 (λ t lt. implies (m.follows s a t) (L t) (h.1 t))),
      )

  pub can_stay_decides : (s : ℕ) → Decides (can_stay m L s) ((a : ℕ) × Stays m L s a)
  can_stay_decides s =
      let d = decides_any (λ a. stays m L s a) (settings m) in (
        λ e. let w = d.0 e in (w.0, (stays_decides s w.0).0 w.2),
        λ h. d.1 (h.0, within.safe_setting s h.0 h.1.0, (stays_decides s h.0).1 h.1),
      )
