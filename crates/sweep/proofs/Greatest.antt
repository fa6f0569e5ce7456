-- The greatest lasting set: there is one list of its flags, and the computed one is it. Assumes nothing.
use Rattle.std.proofs.Common.{◌≡◌, ℕ, zero, suc, ◌<◌, ◌≤◌, Bool, true, false, ◌&&◌, eqb, ◌⊎◌, List, [], ◌∷◌, length, replicate, sym, refl, ap, ◌∙◌, subst, inl, inr, ⊎_elim, arith}
use Rattle.std.proofs.lemmas.Bool.{false≢true, and_parts, and_from, or_cases, or_left, or_right, eqb-true, eq-eqb}
use Rattle.std.proofs.lemmas.List.{same_lists, get_or_default, length-replicate, get_or-replicate}
use Rattle.std.proofs.lemmas.List.FromFn.{length-map-range_with_len, get_or-map-range_with_len}
use Rattle.plant.specs.Meaning.{Meaning, Within, states}
use Rattle.plant.specs.Lasting.{Lasting, Stays}
use Rattle.plant.proofs.Bounded.{same_tests}
use Rattle.sweep.specs.Greatest.{Greatest, held_in, swept, sweeps, lasting_states}
use Rattle.plant.specs.Staying.{can_stay}
use Rattle.sweep.specs.Sweep.{up, Inside}
use Rattle.plant.proofs.Staying.{can_stay_decides}

-- a state whose flag is up has a flag
pub flag_below : (flags : List Bool) (k : ℕ) → held_in flags k ≡ true → k < length flags
flag_below [] k e = absurd (false≢true e)
flag_below (x ∷ flags) zero e = omega arith
flag_below (x ∷ flags) (suc k) e = let h = flag_below flags k e in omega arith

-- flags that say the same of every state are the same flags
same_flags : (xs ys : List Bool) → length xs ≡ length ys → ((k : ℕ) → held_in xs k ≡ held_in ys k) → xs ≡ ys
same_flags xs ys size same =
    same_lists xs ys size λ k d lt.
    get_or_default xs k d false lt ∙ same k ∙ get_or_default ys k false d (omega arith)

pub greatest_unique : (m : Meaning) (xs ys : List Bool) → Greatest m xs → Greatest m ys → xs ≡ ys
greatest_unique m xs ys x y =
    same_flags xs ys (x.size ∙ sym y.size) λ k.
    same_tests _ _ (y.all (held_in xs) x.lasts k) (x.all (held_in ys) y.lasts k)

-- a state from which some setting leads only into the greatest lasting set is in it
pub greatest_closed : (m : Meaning) (held : List Bool) → Greatest m held → (s a : ℕ) → Stays m (held_in held) s a → held_in held s ≡ true
greatest_closed m held g s a stays =
    g.all with_s
    (λ k e. ⊎_elim
    (λ is. subst (λ n. (b : ℕ) × Stays m with_s n b) (sym (eqb-true k s is)) (a, (stays.0, λ t f. or_right (eqb t s) _ (stays.1 t f))))
    (λ flag. let w = g.lasts k flag in (w.0, (w.1.0, λ t f. or_right (eqb t s) _ (w.1.1 t f))))
    (or_cases (eqb k s) (held_in held k) e))
    s (or_left (eqb s s) _ (eq-eqb s s refl))
  where
    with_s : ℕ → Bool
    with_s k = mathlib.Core.Bool.◌||◌ (eqb k s) (held_in held k)

module _ (m : Meaning) (within : Within m) where
  abbrev flag_after : List Bool → ℕ → Bool
  flag_after held s = held_in held s && can_stay m (held_in held) s

  swept_size : (held : List Bool) → length (swept m held) ≡ states m
  swept_size held = length-map-range_with_len (flag_after held) 0 (states m)

  swept_at : (held : List Bool) (s : ℕ) → s < states m → held_in (swept m held) s ≡ flag_after held s
  swept_at held s lt = get_or-map-range_with_len (flag_after held) 0 (states m) s s false lt (omega arith)

  swept_inside : (held : List Bool) → Inside (held_in (swept m held)) held
  swept_inside held s e =
      let lt : s < states m = subst (λ n. s < n) (swept_size held) (flag_below (swept m held) s e) in
      (and_parts _ _ (sym (swept_at held s lt) ∙ e)).0

  swept_keeps : (held : List Bool) (L : ℕ → Bool) → Lasting m L → Inside L held → Inside L (swept m held)
  swept_keeps held L lasts inside s e =
      let w = lasts s e in
      swept_at held s (within.safe_state s w.0 w.1.0) ∙
      and_from _ _ (inside s e) ((can_stay_decides m within (held_in held) s).1 (w.0, (w.1.0, λ t f. inside t (w.1.1 t f))))

  -- flags that a sweep leaves alone are those of a lasting set
  fixed_lasts : (held : List Bool) → length held ≡ states m → swept m held ≡ held → Lasting m (held_in held)
  fixed_lasts held size fixed s e =
      let lt : s < states m = subst (λ n. s < n) size (flag_below held s e) in
      (can_stay_decides m within (held_in held) s).0
      (and_parts _ _ (sym (swept_at held s lt) ∙ subst (λ xs. held_in xs s ≡ true) (sym fixed) e)).1

  pub sweeps_keep : (n : ℕ) (held : List Bool) (L : ℕ → Bool) → Lasting m L → Inside L held → Inside L (sweeps m n held)
  sweeps_keep zero held L lasts inside = inside
  sweeps_keep (suc n) held L lasts inside = sweeps_keep n (swept m held) L lasts (swept_keeps held L lasts inside)

-- what a list is inside of goes for its tail
inside_tail : (x y : Bool) (xs ys : List Bool) → Inside (held_in (x ∷ xs)) (y ∷ ys) → Inside (held_in xs) ys
inside_tail x y xs ys inside k e = inside (suc k) e

-- flags inside others of the same number are the same, or fewer are up
same_or_fewer : (xs ys : List Bool) → length xs ≡ length ys → Inside (held_in xs) ys → (xs ≡ ys) ⊎ (up xs < up ys)
same_or_fewer [] [] size inside = inl refl
same_or_fewer [] (y ∷ ys) size inside = absurd (omega arith)
same_or_fewer (x ∷ xs) [] size inside = absurd (omega arith)
same_or_fewer (true ∷ xs) (true ∷ ys) size inside =
    ⊎_elim (λ e. inl (ap (λ zs. true ∷ zs) e)) (λ lt. inr (omega arith))
    (same_or_fewer xs ys (omega arith) (inside_tail true true xs ys inside))
same_or_fewer (true ∷ xs) (false ∷ ys) size inside = absurd (false≢true (inside 0 refl))
same_or_fewer (false ∷ xs) (true ∷ ys) size inside =
    ⊎_elim (λ e. inr (let h = ap up e in omega arith)) (λ lt. inr (omega arith))
    (same_or_fewer xs ys (omega arith) (inside_tail false true xs ys inside))
same_or_fewer (false ∷ xs) (false ∷ ys) size inside =
    ⊎_elim (λ e. inl (ap (λ zs. false ∷ zs) e)) (λ lt. inr lt)
    (same_or_fewer xs ys (omega arith) (inside_tail false false xs ys inside))

up_replicate : (n : ℕ) → up (replicate n true) ≡ n
up_replicate zero = refl
up_replicate (suc n) = ap suc (up_replicate n)

module _ (m : Meaning) (within : Within m) where
  sweeps_size : (n : ℕ) (held : List Bool) → length held ≡ states m → length (sweeps m n held) ≡ states m
  sweeps_size zero held size = size
  sweeps_size (suc n) held size = sweeps_size n (swept m held) (swept_size m within held)

  sweeps_fixed : (n : ℕ) (held : List Bool) → swept m held ≡ held → swept m (sweeps m n held) ≡ sweeps m n held
  sweeps_fixed zero held fixed = fixed
  sweeps_fixed (suc n) held fixed = sweeps_fixed n (swept m held) (ap (swept m) fixed)

  -- with as many sweeps as flags are up, one sweep more changes nothing
  sweeps_settle : (n : ℕ) (held : List Bool) → length held ≡ states m → up held ≤ n → swept m (sweeps m n held) ≡ sweeps m n held
  sweeps_settle zero held size few =
      ⊎_elim (λ e. e) (λ lt. absurd (omega arith))
      (same_or_fewer (swept m held) held (swept_size m within held ∙ sym size) (swept_inside m within held))
  sweeps_settle (suc n) held size few =
      ⊎_elim
      (λ e. sweeps_fixed n (swept m held) (ap (swept m) e))
      (λ lt. sweeps_settle n (swept m held) (swept_size m within held) (omega arith))
      (same_or_fewer (swept m held) held (swept_size m within held ∙ sym size) (swept_inside m within held))

  pub lasting_states_greatest : Greatest m (lasting_states m)
  lasting_states_greatest =
      let all_up : List Bool = replicate (states m) true in
      let size : length all_up ≡ states m = length-replicate (states m) true in
      record {
        size = sweeps_size (states m) all_up size;
        lasts = fixed_lasts m within (lasting_states m) (sweeps_size (states m) all_up size)
            (sweeps_settle (states m) all_up size (let h = up_replicate (states m) in omega arith));
        all = λ L lasts. sweeps_keep m within (states m) all_up L lasts
            (λ s e. let w = lasts s e in get_or-replicate (states m) s true false (within.safe_state s w.0 w.1.0));
      }
