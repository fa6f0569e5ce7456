-- Every pair of a plan without loops and clashes has an extension that fits, and a state that follows. Assumes nothing.
use Rattle.std.proofs.Common.{◌≡◌, ℕ, zero, suc, ◌+◌, ◌*◌, ◌/◌, ◌%◌, ◌^◌, ◌<◌, ◌≤◌, Bool, true, false, cond, ◌&&◌, eqb, ltb, List, sym, refl, ap, ◌∙◌, subst, ⊎_elim, arith}
use mathlib.Core.List.{Memᴰ}
use Rattle.std.proofs.lemmas.Nat.{div_below, mul-add-lt, pow-add, pow_pos, div-add-mod'}
use Rattle.std.proofs.lemmas.Bool.{and_parts, and_from, eqb-true, eq-eqb, both_ways, cases_Bool, cases_lt, cond-true, cond-false, lt-ltb, le-ltb}
use Rattle.plant.specs.Bits.{bit, pack}
use Rattle.plant.specs.Conditions.{holds, Holds}
use Rattle.std.specs.List.{list_any}
use Rattle.plant.proofs.Bits.{bit_beyond, bit_pack, more_bits, pack_small, same_prefix}
use Rattle.plant.proofs.Bounded.{same_tests}
use Rattle.plant.proofs.Conditions.{holds_decides}
use Rattle.plant.proofs.Tests.{some_decides}
use Rattle.plan.specs.Admitted.{ClashFree}
use Rattle.plan.specs.Depends.{Names, Depends, LoopFree}
use Rattle.plan.specs.Depends.Depends.{directly, through}
use Rattle.plan.specs.Formed.{WellFormed, letters}
use Rattle.plan.specs.Loops.{reached}
use Rattle.plan.specs.Machine.{Parts, Fits, Follows, extension}
use Rattle.plan.specs.declared.clause.Clause.{Clause}
use Rattle.plan.proofs.Depending.{Below, reached_decides, reached_small}

-- whether the clause gives the letter the value 1 in the word
abbrev picks : ℕ → ℕ → Clause → Bool
picks w i c = (eqb c.letter i && c.value) && holds c.condition w

-- the value of a letter by the clauses that give it 1
abbrev chosen : List Clause → ℕ → ℕ → Bool
chosen cs w i = list_any (picks w i) cs

-- without clashes, that is the value of every clause whose condition holds
chosen_value : (cs : List Clause) → ClashFree cs → (w : ℕ) (c : Clause) → Memᴰ c cs → Holds c.condition w → chosen cs w c.letter ≡ c.value
chosen_value cs free w c here h = by c.value refl
  where
    by : (v : Bool) → c.value ≡ v → chosen cs w c.letter ≡ v
    by true e = (some_decides (picks w c.letter) cs).1 (c, here, and_from _ _ (and_from _ _ (eq-eqb _ _ refl) e) ((holds_decides c.condition w).1 h))
    by false e =
        ⊎_elim
        (λ is_one.
        let found = (some_decides (picks w c.letter) cs).0 is_one in
        let d = found.0 in
        let parts = and_parts (eqb d.letter c.letter && d.value) (holds d.condition w) found.2 in
        let heads = and_parts (eqb d.letter c.letter) d.value parts.0 in
        absurd (free d c found.1 here (record {
          letter = eqb-true _ _ heads.0;
          opposite = λ same. both_ways c.value e (sym same ∙ heads.1);
          together = (w, (holds_decides d.condition w).0 parts.1, h);
        })))
        (λ isnt. isnt)
        (cases_Bool (chosen cs w c.letter))

-- the value of a letter stays where the letters that its clauses name stay
chosen_on : (cs : List Clause) (l u v : ℕ) → ((k : ℕ) → Names cs l k → bit u k ≡ bit v k) → chosen cs u l ≡ true → chosen cs v l ≡ true
chosen_on cs l u v agree is_one =
    let found = (some_decides (picks u l) cs).0 is_one in
    let d = found.0 in
    let parts = and_parts (eqb d.letter l && d.value) (holds d.condition u) found.2 in
    let own : d.letter ≡ l = eqb-true _ _ (and_parts (eqb d.letter l) d.value parts.0).0 in
    let h = (holds_decides d.condition u).0 parts.1 in
    let there : Holds d.condition v = record {
      on = λ i has. sym (agree i (record { clause = d; here = found.1; own = own; named = mathlib.Core.Logic.inl has })) ∙ h.on i has;
      off = λ i has. sym (agree i (record { clause = d; here = found.1; own = own; named = mathlib.Core.Logic.inr has })) ∙ h.off i has;
    } in
    (some_decides (picks v l) cs).1 (d, found.1, and_from _ _ parts.0 ((holds_decides d.condition v).1 there))

chosen_same : (cs : List Clause) (l u v : ℕ) → ((k : ℕ) → Names cs l k → bit u k ≡ bit v k) → chosen cs u l ≡ chosen cs v l
chosen_same cs l u v agree = same_tests _ _ (chosen_on cs l u v agree) (chosen_on cs l v u (λ k n. sym (agree k n)))

further_on : (cs : List Clause) (l k : ℕ) → Depends cs l k → (j : ℕ) → Depends cs k j → Depends cs l j
further_on cs l k d j (directly n) = through d n
further_on cs l k d j (through e n) = through (further_on cs l k d _ e) n

module _ (cs : List Clause) (n : ℕ) (few : n ≤ 32) (small : Below n cs) (free : LoopFree cs) where
  -- a letter that a clause names has less below it
  smaller : (l k : ℕ) → l < n → k < n → Names cs l k → reached cs (2 ^ n) k < reached cs (2 ^ n) l
  smaller l k l_small k_small names =
      let of_l = reached_decides n cs small l (omega arith) in
      let of_k = reached_decides n cs small k (omega arith) in
      let le : reached cs (2 ^ n) k ≤ reached cs (2 ^ n) l = more_bits _ _ (λ i has. (of_l i).1 (further_on cs l k (directly names) i ((of_k i).0 has))) in
      let other : reached cs (2 ^ n) k ≡ reached cs (2 ^ n) l → ⊥ = λ same. free k ((of_k k).0 (ap (λ x. bit x k) same ∙ (of_l k).1 (directly names))) in
      omega (arith, other)

  module _ (low : ℕ) (low_le : low ≤ n) (base : ℕ) where
    -- the given bits, and the others as the clauses choose in the word
    abbrev next_bit : ℕ → ℕ → Bool
    next_bit w i = cond (ltb i low) (bit base i) (chosen cs w i)

    -- so many times over, from the given bits
    abbrev steps : ℕ → ℕ
    steps zero = pack (next_bit 0) n
    steps (suc f) = pack (next_bit (steps f)) n

    bit_step : (w i : ℕ) → low ≤ i → i < n → bit (pack (next_bit w) n) i ≡ chosen cs w i
    bit_step w i ge lt = bit_pack (next_bit w) n i lt ∙ cond-false (ltb i low) (bit base i) _ (le-ltb i low ge)

    low_bit : (w i : ℕ) → i < low → bit (pack (next_bit w) n) i ≡ bit base i
    low_bit w i lt = bit_pack (next_bit w) n i (omega arith) ∙ cond-true (ltb i low) (bit base i) _ (lt-ltb i low lt)

    low_kept : (f i : ℕ) → i < low → bit (steps f) i ≡ bit base i
    low_kept zero i lt = low_bit 0 i lt
    low_kept (suc f) i lt = low_bit (steps f) i lt

    steps_small : (f : ℕ) → steps f < 2 ^ n
    steps_small zero = pack_small (next_bit 0) n
    steps_small (suc f) = pack_small (next_bit (steps f)) n

    stable : (f l : ℕ) → l < n → reached cs (2 ^ n) l < f → bit (steps (suc f)) l ≡ bit (steps f) l
    stable zero l l_small lt = absurd (omega arith)
    stable (suc f) l l_small lt =
        ⊎_elim
        (λ is_low. low_kept (suc (suc f)) l is_low ∙ sym (low_kept (suc f) l is_low))
        (λ is_high. bit_step (steps (suc f)) l is_high l_small ∙ chosen_same cs l (steps (suc f)) (steps f) (agree (stable f)) ∙ sym (bit_step (steps f) l is_high l_small))
        (cases_lt l low)
      where
        agree : ((k : ℕ) → k < n → reached cs (2 ^ n) k < f → bit (steps (suc f)) k ≡ bit (steps f) k) → (k : ℕ) → Names cs l k → bit (steps (suc f)) k ≡ bit (steps f) k
        agree before k names =
            ⊎_elim
            (λ k_small. before k k_small (let less = smaller l k l_small k_small names in omega arith))
            (λ past. bit_beyond (steps (suc f)) n k (steps_small (suc f)) past ∙ sym (bit_beyond (steps f) n k (steps_small f) past))
            (cases_lt k n)

    -- in the end each letter that is not given has the value that the clauses choose
    settled : (l : ℕ) → low ≤ l → l < n → bit (steps (2 ^ n)) l ≡ chosen cs (steps (2 ^ n)) l
    settled l ge lt = sym (stable (2 ^ n) l lt (reached_small n cs small l)) ∙ bit_step (steps (2 ^ n)) l ge lt

-- the word of a number's low part and what stands above it
module _ (p : Parts) (formed : WellFormed p) (few : letters p ≤ 32) (small : Below (letters p) p.auxes) (free : LoopFree p.auxes) (agree : ClashFree p.auxes) where
  pub fitting : (s a : ℕ) → s < 2 ^ p.bits → a < 2 ^ p.lines → (x : ℕ) × (x < 2 ^ p.auxiliaries) × Fits p (extension p s a x)
  fitting s a s_lt a_lt =
      let low : ℕ = p.bits + p.lines in
      let base : ℕ = a * 2 ^ p.bits + s in
      let whole : ℕ = steps p.auxes (letters p) few small free low (omega arith) base (2 ^ letters p) in
      let whole_small : whole < 2 ^ letters p = steps_small p.auxes (letters p) few small free low (omega arith) base (2 ^ letters p) in
      let base_small : base < 2 ^ low = subst (λ k. base < k) (sym (pow-add 2 p.bits p.lines)) (mul-add-lt a (2 ^ p.bits) s (2 ^ p.lines) a_lt s_lt) in
      let split : 2 ^ letters p ≡ 2 ^ p.auxiliaries * 2 ^ low = pow-add 2 low p.auxiliaries ∙ native.Mathlib.Nat.mul_comm (2 ^ low) (2 ^ p.auxiliaries) in
      let rest : whole % 2 ^ low ≡ base = same_prefix whole base low (low_kept p.auxes (letters p) few small free low (omega arith) base (2 ^ letters p)) ∙ native.Mathlib.Nat.mod-eq_of_lt base_small in
      let is_word : whole ≡ extension p s a (whole / 2 ^ low) = sym (div-add-mod' whole (2 ^ low)) ∙ ap (λ r. whole / 2 ^ low * 2 ^ low + r) rest in (
        whole / 2 ^ low,
        div_below whole (2 ^ low) (2 ^ p.auxiliaries) (pow_pos low) (subst (λ k. whole < k) split whole_small),
        subst (λ w. Fits p w) is_word
            (λ c here h.
            let place = formed.auxes c here in
            settled p.auxes (letters p) few small free low (omega arith) base c.letter place.0 place.1 ∙ chosen_value p.auxes agree whole c here h),
      )

  pub followed : ClashFree p.nexts → (s a : ℕ) → s < 2 ^ p.bits → a < 2 ^ p.lines → (t : ℕ) × (t < 2 ^ p.bits) × Follows p s a t
  followed nexts_agree s a s_lt a_lt =
      let found = fitting s a s_lt a_lt in
      let w : ℕ = extension p s a found.0 in (
        pack (chosen p.nexts w) p.bits,
        pack_small (chosen p.nexts w) p.bits,
        (
          found.0,
          found.1,
          found.2,
          λ c here h. bit_pack (chosen p.nexts w) p.bits c.letter (formed.nexts c here).0 ∙ chosen_value p.nexts nexts_agree w c here h,
        ),
      )
