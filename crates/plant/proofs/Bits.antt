-- Bits of numbers, over any width. Assumes nothing.
use Rattle.std.proofs.Common.{◌≡◌, ℕ, zero, suc, ◌+◌, ◌-◌, ◌*◌, ◌/◌, ◌%◌, ◌^◌, ◌<◌, ◌≤◌, Bool, true, false, cond, ◌&&◌, ◌||◌, eqb, sym, refl, ap, ◌∙◌, subst, ap₂, ⊎_elim, add-zero, mod-lt, mod-eq_of_lt, pow-suc, zero-add, one-add, arith}
use native.Mathlib.Nat.{mod-one}
use lib.Arith.{digits_div}
use lib.Bits.{bit_and, bit_or}
use Rattle.std.proofs.lemmas.Nat.{field_of, mod_below, mod-pow-add, pow_below, pow_pos, or_shr, or_mod, and_shr, and_mod, shr-shr, shr_split}
use Rattle.std.proofs.lemmas.Nat.Bits.{bit_at_above, bit_at_cat_low, bit_at_cat_high, same_from_bits_below}
use Rattle.std.proofs.lemmas.Bool.{eqb-true, eqb-false, eq-eqb, ne_eqb, both_ways, cases_Bool, cases_eq, cases_lt}
use Rattle.plant.specs.Bits.{bit, pack}
use Rattle.plant.specs.Bounded.{any_below}
use Rattle.plant.proofs.Bounded.{decides_any, any_from_one}

abbrev digit : Bool → ℕ
digit b = cond b 1 0

bit_digit_by : (x i : ℕ) (t : Bool) → bit x i ≡ t → x / 2 ^ i % 2 ≡ digit t
bit_digit_by x i true e = eqb-true (x / 2 ^ i % 2) 1 e
bit_digit_by x i false e =
    let small : x / 2 ^ i % 2 < 2 = mod-lt (x / 2 ^ i) (omega arith) in
    let ne : x / 2 ^ i % 2 ≡ 1 → ⊥ = eqb-false (x / 2 ^ i % 2) 1 e in
    omega arith

-- a bit, as the number 0 or 1
pub bit_digit : (x i : ℕ) → x / 2 ^ i % 2 ≡ digit (bit x i)
bit_digit x i = bit_digit_by x i (bit x i) refl

-- one bit more of two numbers that agree below it
pub prefix_more : (x y i : ℕ) → x % 2 ^ i ≡ y % 2 ^ i → bit x i ≡ bit y i → x % 2 ^ suc i ≡ y % 2 ^ suc i
prefix_more x y i low top = at x ∙ ap₂ (λ d r. d * 2 ^ i + r) tops low ∙ sym (at y)
  where
    at : (z : ℕ) → z % 2 ^ suc i ≡ (z / 2 ^ i % 2) * 2 ^ i + z % 2 ^ i
    at z = ap (λ k. z % 2 ^ k) (sym (one-add i)) ∙ mod-pow-add z 1 i

    tops : x / 2 ^ i % 2 ≡ y / 2 ^ i % 2
    tops = bit_digit x i ∙ ap digit top ∙ sym (bit_digit y i)

-- a bit depends on nothing above it
pub bit_low : (x i : ℕ) → bit (x % 2 ^ suc i) i ≡ bit x i
bit_low x i = ap (λ z. eqb (z % 2) 1) field ∙ ap (λ z. eqb z 1) twice
  where
    field : x % 2 ^ suc i / 2 ^ i ≡ x / 2 ^ i % 2
    field = ap (λ k. x % 2 ^ k / 2 ^ i) (sym (one-add i)) ∙ field_of x 1 i

    twice : x / 2 ^ i % 2 % 2 ≡ x / 2 ^ i % 2
    twice = mod-eq_of_lt (mod-lt (x / 2 ^ i) (omega arith))

-- a number has no bit past a power of two that it lies below
pub bit_beyond : (x n i : ℕ) → x < 2 ^ n → n ≤ i → bit x i ≡ false
bit_beyond x n i small past = ap (λ z. eqb z 1) (bit_at_above x n i small past)

-- what stands above bit n does not matter below it
pub bit_under : (high n low i : ℕ) → i < n → bit (high * 2 ^ n + low) i ≡ bit low i
bit_under high n low i lt = ap (λ z. eqb z 1) (bit_at_cat_low high n low i lt)

-- nor does what stands below bit n matter from it on
pub bit_over : (high n low i : ℕ) → low < 2 ^ n → n ≤ i → bit (high * 2 ^ n + low) i ≡ bit high (i - n)
bit_over high n low i small past = ap (λ z. eqb z 1) (bit_at_cat_high high n low i small past)

pub pack_small : (p : ℕ → Bool) (n : ℕ) → pack p n < 2 ^ n
pack_small p zero = omega arith
pack_small p (suc n) =
    let h = pack_small p n in
    let e = pow-suc 2 n in
    let c : cond (p n) (2 ^ n) 0 ≤ 2 ^ n = at_most (p n) in
    omega arith
  where
    at_most : (b : Bool) → cond b (2 ^ n) 0 ≤ 2 ^ n
    at_most true = omega arith
    at_most false = omega arith

-- the bits of a packed number
pub bit_pack : (p : ℕ → Bool) (n i : ℕ) → i < n → bit (pack p n) i ≡ p i
bit_pack p zero i lt = absurd (omega arith)
bit_pack p (suc n) i lt =
    ⊎_elim top (λ ne. below ne (bit_pack p n i (omega arith))) (cases_eq i n)
  where
    shifted : (b : Bool) → cond b (2 ^ n) 0 ≡ digit b * 2 ^ n
    shifted true = omega arith
    shifted false = omega arith

    one_digit : (b : Bool) → eqb (digit b % 2) 1 ≡ b
    one_digit true = refl
    one_digit false = refl

    top : i ≡ n → bit (pack p (suc n)) i ≡ p i
    top e =
        let at_n : bit (pack p (suc n)) n ≡ p n =
        ap (λ z. eqb ((z + pack p n) / 2 ^ n % 2) 1) (shifted (p n)) ∙
        ap (λ z. eqb (z % 2) 1) (digits_div (digit (p n)) (pack_small p n)) ∙ one_digit (p n) in
        subst (λ k. bit (pack p (suc n)) k ≡ p k) (sym e) at_n

    below : (i ≡ n → ⊥) → bit (pack p n) i ≡ p i → bit (pack p (suc n)) i ≡ p i
    below ne before = ap (λ z. bit (z + pack p n) i) (shifted (p n)) ∙ bit_under (digit (p n)) n (pack p n) i (omega arith) ∙ before

-- a packed number that is not 0 has a bit
pub pack_some : (p : ℕ → Bool) (n : ℕ) → (pack p n ≡ 0 → ⊥) → (i : ℕ) × (i < n) × (p i ≡ true)
pack_some p zero some = absurd (some refl)
pack_some p (suc n) some = at_top (p n) refl (pack_some p n)
  where
    at_top : (t : Bool) → p n ≡ t → ((pack p n ≡ 0 → ⊥) → (i : ℕ) × (i < n) × (p i ≡ true)) → (i : ℕ) × (i < suc n) × (p i ≡ true)
    at_top true e below = (n, omega arith, e)
    at_top false e below =
        let w = below (λ none. some (ap (λ b. cond b (2 ^ n) 0 + pack p n) e ∙ zero-add (pack p n) ∙ none)) in
        (w.0, omega (arith, w.1), w.2)

digit_or : (u v : Bool) → eqb (bit_or (digit u) (digit v)) 1 ≡ (u || v)
digit_or true true = refl
digit_or true false = refl
digit_or false true = refl
digit_or false false = refl

digit_and : (u v : Bool) → eqb (bit_and (digit u) (digit v)) 1 ≡ (u && v)
digit_and true true = refl
digit_and true false = refl
digit_and false true = refl
digit_and false false = refl

-- the bits of an or, and of an and
pub bit_of_or : (x y i : ℕ) → bit (bit_or x y) i ≡ (bit x i || bit y i)
bit_of_or x y i =
    ap (λ z. eqb (z % 2) 1) (or_shr x y i) ∙ ap (λ z. eqb z 1) (or_mod (x / 2 ^ i) (y / 2 ^ i) 1) ∙
    ap₂ (λ d e. eqb (bit_or d e) 1) (bit_digit x i) (bit_digit y i) ∙ digit_or (bit x i) (bit y i)

pub bit_of_and : (x y i : ℕ) → bit (bit_and x y) i ≡ (bit x i && bit y i)
bit_of_and x y i =
    ap (λ z. eqb (z % 2) 1) (and_shr x y i) ∙ ap (λ z. eqb z 1) (and_mod (x / 2 ^ i) (y / 2 ^ i) 1) ∙
    ap₂ (λ d e. eqb (bit_and d e) 1) (bit_digit x i) (bit_digit y i) ∙ digit_and (bit x i) (bit y i)

-- a number is packed of its bits
pack_bits : (x n : ℕ) → pack (bit x) n ≡ x % 2 ^ n
pack_bits x zero = sym (mod-one x)
pack_bits x (suc n) =
    ap₂ (λ d r. d + r) (top (bit x n) refl) (pack_bits x n) ∙ sym (mod-pow-add x 1 n) ∙ ap (λ k. x % 2 ^ k) (one-add n)
  where
    top : (t : Bool) → bit x n ≡ t → cond t (2 ^ n) 0 ≡ (x / 2 ^ n % 2) * 2 ^ n
    top true e = let d = bit_digit_by x n true e in subst (λ k. 2 ^ n ≡ k * 2 ^ n) (sym d) (omega arith)
    top false e = let d = bit_digit_by x n false e in subst (λ k. 0 ≡ k * 2 ^ n) (sym d) (omega arith)

pack_same : (p q : ℕ → Bool) (n : ℕ) → ((i : ℕ) → i < n → p i ≡ q i) → pack p n ≡ pack q n
pack_same p q zero same = refl
pack_same p q (suc n) same = ap₂ (λ b r. cond b (2 ^ n) 0 + r) (same n (omega arith)) (pack_same p q n (λ i lt. same i (omega arith)))

-- numbers below 2 ^ n with the same bits are the same
pub same_bits : (x y n : ℕ) → x < 2 ^ n → y < 2 ^ n → ((i : ℕ) → i < n → bit x i ≡ bit y i) → x ≡ y
same_bits x y n x_small y_small same = same_from_bits_below n x y x_small y_small (λ i lt. bit_digit x i ∙ ap digit (same i lt) ∙ sym (bit_digit y i))

-- a number lies below a power of two
pub below_pow : (n : ℕ) → n < 2 ^ n
below_pow zero = omega arith
below_pow (suc n) = let h = below_pow n in let e = pow-suc 2 n in omega arith

-- 0 has no bit
pub no_bits : (i : ℕ) → bit 0 i ≡ false
no_bits i = bit_beyond 0 0 i (omega arith) (omega arith)

-- two numbers with the same lowest bits have the same remainder
pub same_prefix : (x y n : ℕ) → ((i : ℕ) → i < n → bit x i ≡ bit y i) → x % 2 ^ n ≡ y % 2 ^ n
same_prefix x y n same = sym (pack_bits x n) ∙ pack_same (bit x) (bit y) n same ∙ pack_bits y n

pack_none : (p : ℕ → Bool) (n : ℕ) → ((i : ℕ) → i < n → p i ≡ false) → pack p n ≡ 0
pack_none p zero none = refl
pack_none p (suc n) none = ap₂ (λ b r. cond b (2 ^ n) 0 + r) (none n (omega arith)) (pack_none p n (λ i lt. none i (omega arith)))

-- a power of two has one bit
pub bit_power : (l i : ℕ) → bit (2 ^ l) i ≡ eqb i l
bit_power l i =
    ⊎_elim
    (λ lt. ap (λ x. bit x i) (sym whole) ∙ bit_pack (λ k. eqb k l) (suc l) i lt)
    (λ past. bit_beyond (2 ^ l) (suc l) i (pow_below l (suc l) (omega arith)) past ∙ sym (ne_eqb i l (λ e. omega arith)))
    (cases_lt i (suc l))
  where
    whole : pack (λ k. eqb k l) (suc l) ≡ 2 ^ l
    whole = ap₂ (λ b r. cond b (2 ^ l) 0 + r) (eq-eqb l l refl) (pack_none (λ k. eqb k l) l (λ k lt. ne_eqb k l (λ e. omega arith))) ∙ add-zero (2 ^ l)

pack_le : (p q : ℕ → Bool) (n : ℕ) → ((i : ℕ) → i < n → p i ≡ true → q i ≡ true) → pack p n ≤ pack q n
pack_le p q zero more = omega arith
pack_le p q (suc n) more =
    let rest = pack_le p q n (λ i lt. more i (omega arith)) in
    let top : cond (p n) (2 ^ n) 0 ≤ cond (q n) (2 ^ n) 0 = by (p n) refl in
    omega arith
  where
    by : (b : Bool) → p n ≡ b → cond b (2 ^ n) 0 ≤ cond (q n) (2 ^ n) 0
    by true e = subst (λ (t : Bool). 2 ^ n ≤ cond t (2 ^ n) 0) (sym (more n (omega arith) e)) (omega arith)
    by false e = omega arith

-- a number with all the bits of another is no less
pub more_bits : (x y : ℕ) → ((i : ℕ) → bit x i ≡ true → bit y i ≡ true) → x ≤ y
more_bits x y more =
    let n : ℕ = x + y in
    let h = below_pow n in
    let x_is : pack (bit x) n ≡ x = pack_bits x n ∙ mod-eq_of_lt (omega arith) in
    let y_is : pack (bit y) n ≡ y = pack_bits y n ∙ mod-eq_of_lt (omega arith) in
    let le = pack_le (bit x) (bit y) n (λ i _ e. more i e) in
    omega arith

-- what a number has from bit n on
module _ (x n : ℕ) where
  abbrev high : ℕ
  high = x / 2 ^ n

  abbrev at : ℕ → Bool
  at k = bit x (n + k)

  clear : any_below at high ≡ false → (k : ℕ) → k < high → at k ≡ false
  clear e k lt = ⊎_elim (λ has. absurd (both_ways _ e (any_from_one at high k lt has))) (λ f. f) (cases_Bool (at k))

  nothing : any_below at high ≡ false → high ≡ 0
  nothing e =
      same_bits high 0 high (below_pow high) (let b = below_pow high in omega arith)
      (λ i lt. ap (λ z. eqb (z % 2) 1) (shr-shr x n i) ∙ clear e i lt ∙ sym (no_bits i))

  small : high ≡ 0 → x < 2 ^ n
  small e =
      let rest = shr_split x n in
      let under = mod_below x (2 ^ n) (pow_pos n) in
      let low : 0 * 2 ^ n + x % 2 ^ n ≡ x = subst (λ h. h * 2 ^ n + x % 2 ^ n ≡ x) e rest in
      omega arith

  -- a number from 2 ^ n on has a bit from n on
  pub bit_from : 2 ^ n ≤ x → (i : ℕ) × (n ≤ i) × (bit x i ≡ true)
  bit_from large =
      ⊎_elim (λ e. let w = (decides_any at high).0 e in (n + w.0, omega arith, w.2)) (λ e. absurd (let lt = small (nothing e) in omega arith)) (cases_Bool (any_below at high))
