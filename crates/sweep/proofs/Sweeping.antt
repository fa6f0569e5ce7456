-- The flags while a sweep goes over the states. Assumes nothing.
use Rattle.std.proofs.Common.{◌≡◌, ℕ, zero, suc, ◌+◌, ◌<◌, ◌≤◌, Bool, true, false, List, [], ◌∷◌, length, set, ◌∙◌, subst, ⊎_elim, arith, below_more}
use Rattle.std.proofs.lemmas.Bool.{both_ways, cases_eq, false≢true, true≢false}
use Rattle.std.proofs.lemmas.List.{get_or-set_other}
use Rattle.plant.specs.Meaning.{Meaning, Within, states}
use Rattle.plant.specs.Lasting.{Lasting}
use Rattle.sweep.specs.Greatest.{held_in}
use Rattle.plant.specs.Staying.{can_stay}
use Rattle.sweep.specs.Sweep.{up, Inside, Swept}
use Rattle.sweep.proofs.Greatest.{flag_below}
use Rattle.plant.proofs.Staying.{can_stay_decides}

-- a flag that falls
pub up_lowered : (held : List Bool) (s : ℕ) → held_in held s ≡ true → up (set held s false) < up held
up_lowered [] s e = absurd (false≢true e)
up_lowered (true ∷ held) zero e = omega arith
up_lowered (false ∷ held) zero e = absurd (false≢true e)
up_lowered (true ∷ held) (suc s) e = let h = up_lowered held s e in omega arith
up_lowered (false ∷ held) (suc s) e = up_lowered held s e

-- after the states below s, where the sweep began with the flags `before`
pub record Sweeping (m : Meaning) (before held : List Bool) (changed : Bool) (s : ℕ) : Type 0 where
  pub keeps : (L : ℕ → Bool) → Lasting m L → Inside L before → Inside L held
  pub no_more : up held ≤ up before
  pub fewer : changed ≡ true → up held < up before
  pub same : changed ≡ false → held ≡ before
  pub stay : changed ≡ false → (k : ℕ) → k < s → held_in held k ≡ true → can_stay m (held_in held) k ≡ true

module _ (m : Meaning) (within : Within m) (before held : List Bool) (changed : Bool) (s : ℕ) (now : Sweeping m before held changed s) where
  -- the flag of s stays as it is: it is down, or s can stay
  pub sweeping_kept : (held_in held s ≡ true → can_stay m (held_in held) s ≡ true) → Sweeping m before held changed (s + 1)
  sweeping_kept here = record {
    keeps = now.keeps;
    no_more = now.no_more;
    fewer = now.fewer;
    same = now.same;
    stay = λ e. below_more (λ k. held_in held k ≡ true → can_stay m (held_in held) k ≡ true) s (now.stay e) here;
  }

  -- the flag of s falls, since s can not stay
  pub sweeping_lowered : held_in held s ≡ true → can_stay m (held_in held) s ≡ false → Sweeping m before (set held s false) true (s + 1)
  sweeping_lowered was falls = record {
    keeps = λ L lasts inside k in_L.
        ⊎_elim
        (λ e. absurd (both_ways _ falls
        (let w = lasts s (subst (λ n. L n ≡ true) e in_L) in
        (can_stay_decides m within (held_in held) s).1
        (w.0, (w.1.0, λ t f. now.keeps L lasts inside t (w.1.1 t f))))))
        (λ ne. get_or-set_other held s k false false ne ∙ now.keeps L lasts inside k in_L)
        (cases_eq k s);
    no_more = let h = up_lowered held s was in let n = now.no_more in omega arith;
    fewer = λ _. let h = up_lowered held s was in let n = now.no_more in omega arith;
    same = λ e. absurd (true≢false e);
    stay = λ e. absurd (true≢false e);
  }

-- after all states
pub sweeping_all : (m : Meaning) → Within m → (before held : List Bool) (changed : Bool) (s : ℕ) → length held ≡ states m → states m ≤ s → Sweeping m before held changed s → Swept m before held changed
sweeping_all m within before held changed s size all now = record {
  keeps = now.keeps;
  fewer = now.fewer;
  settled = λ e. (now.same e, λ k flag. (can_stay_decides m within (held_in held) k).0 (now.stay e k (let lt = flag_below held k flag in omega arith) flag));
}
