-- The computed rule list has just the rules that stand, ascending. Assumes nothing.
use Rattle.std.proofs.Common.{◌≡◌, ℕ, zero, suc, ◌-◌, ◌*◌, ◌^◌, ◌<◌, ◌≤◌, Bool, true, false, cond, not, ◌&&◌, List, [], ◌∷◌, ◌++◌, length, get_or, Decides, sym, refl, ap, ◌∙◌, subst, subst₂, inl, inr, ⊎_elim, suc-mul, pow-suc, arith, length-append}
use mathlib.Core.List.Memᴰ
use mathlib.Core.List.{Memᴰ}
use Rattle.std.proofs.lemmas.List.{get_or_append_left, get_or-append_right}
use Rattle.std.proofs.lemmas.Bool.{and_parts, and_from, eqb-true, eq-eqb, cases_eq, cases_lt, both_ways, false_from_ne_true, true≢false, false≢true}
use Rattle.plant.specs.Bits.{bit}
use Rattle.plant.proofs.Bounded.{decides_any}
use Rattle.rules.specs.Listing.{goes_on, concat_below, some_open, rule_at, rules_of_line, rules_of_state, rules_of, SomeOpen, Stands, Before, ListsStanding}
use Rattle.rules.specs.declared.Rule.{Rule}
use Rattle.plant.proofs.Tests.{same_decides}

-- what is in a concatenation is in one of its parts, and the other way round
concat_cases : {X : Type 0} (f : ℕ → List X) (n : ℕ) {x : X} → Memᴰ x (concat_below f n) → (k : ℕ) × (k < n) × Memᴰ x (f k)
concat_cases f zero here = absurd (Memᴰ.not-nil here)
concat_cases f (suc n) here =
    ⊎_elim
    (λ before. let w = concat_cases f n before in (w.0, omega (arith, w.1), w.2))
    (λ last. (n, omega arith, last))
    (Memᴰ.append_cases (concat_below f n) here)

concat_has : {X : Type 0} (f : ℕ → List X) (n k : ℕ) {x : X} → k < n → Memᴰ x (f k) → Memᴰ x (concat_below f n)
concat_has f zero k lt here = absurd (omega arith)
concat_has f (suc n) k {x} lt here =
    ⊎_elim
    (λ is. Memᴰ.append_right (concat_below f n) (subst (λ i. Memᴰ x (f i)) is here))
    (λ ne. Memᴰ.append_left (f n) (concat_has f n k (omega arith) here))
    (cases_eq k n)

-- where no part is longer than c
pub concat_length : {X : Type 0} (f : ℕ → List X) (c n : ℕ) → ((k : ℕ) → length (f k) ≤ c) → length (concat_below f n) ≤ n * c
concat_length f c zero each = omega arith
concat_length f c (suc n) each =
    let h = concat_length f c n each in
    let e = each n in
    let l = length-append (concat_below f n) (f n) in
    let s = suc-mul n c in
    omega arith

-- each rule of the list comes before those after it
abbrev Ascends : List Rule → Type 0
Ascends rs = (i k : ℕ) (d : Rule) → i < k → k < length rs → Before (get_or rs i d) (get_or rs k d)

in_list : (rs : List Rule) (i : ℕ) (d : Rule) → i < length rs → Memᴰ (get_or rs i d) rs
in_list [] i d lt = absurd (omega arith)
in_list (r ∷ rs) zero d lt = Memᴰ.head refl
in_list (r ∷ rs) (suc i) d lt = Memᴰ.tail (in_list rs i d (omega arith))

ascends_append : (xs ys : List Rule) → Ascends xs → Ascends ys → ((x y : Rule) → Memᴰ x xs → Memᴰ y ys → Before x y) → Ascends (xs ++ ys)
ascends_append xs ys up_x up_y between i k d lt within =
    ⊎_elim
    (λ k_in. subst₂ Before (sym (left i (omega arith))) (sym (left k k_in)) (up_x i k d lt k_in))
    (λ k_out.
    ⊎_elim
    (λ i_in. subst₂ Before (sym (left i i_in)) (sym (right k k_out)) (between _ _ (in_list xs i d i_in) (in_list ys (k - length xs) d (past k within k_out))))
    (λ i_out. subst₂ Before (sym (right i i_out)) (sym (right k k_out)) (up_y (i - length xs) (k - length xs) d (omega arith) (past k within k_out)))
    (cases_lt i (length xs)))
    (cases_lt k (length xs))
  where
    left : (j : ℕ) → j < length xs → get_or (xs ++ ys) j d ≡ get_or xs j d
    left j h = get_or_append_left xs ys d j h

    right : (j : ℕ) → length xs ≤ j → get_or (xs ++ ys) j d ≡ get_or ys (j - length xs) d
    right j h = get_or-append_right xs ys (length xs) j d refl h

    past : (j : ℕ) → j < length (xs ++ ys) → length xs ≤ j → j - length xs < length ys
    past j h g = let l = length-append xs ys in omega arith

ascends_concat : (f : ℕ → List Rule) (n : ℕ) → ((k : ℕ) → k < n → Ascends (f k)) → ((i k : ℕ) → i < k → k < n → (x y : Rule) → Memᴰ x (f i) → Memᴰ y (f k) → Before x y) → Ascends (concat_below f n)
ascends_concat f zero each between = λ i k d lt within. absurd (omega arith)
ascends_concat f (suc n) each between =
    ascends_append (concat_below f n) (f n)
    (ascends_concat f n (λ k lt. each k (omega arith)) (λ i k lt in_n. between i k lt (omega arith)))
    (each n (omega arith))
    (λ x y in_x in_y. let w = concat_cases f n in_x in between w.0 n w.1 (omega arith) x y w.2 in_y)

abbrev rule : ℕ → ℕ → ℕ → Bool → Rule
rule s j p v = record { state = s; line = j; prefix = p; value = v }

-- `rule_at` over what is open: whether with the line on, and whether with it off
abbrev chosen : Bool → Bool → ℕ → ℕ → ℕ → List Rule
chosen on off s j p = cond on (cond off [] (rule s j p true ∷ [])) (cond off (rule s j p false ∷ []) [])

-- what is open with the line at v
abbrev way : Bool → Bool → Bool → Bool
way on off true = on
way on off false = off

-- r is the rule with value v, and v is the only value that is open
abbrev Chosen : Bool → Bool → ℕ → ℕ → ℕ → Rule → Type 0
Chosen on off s j p r = (v : Bool) × (r ≡ rule s j p v) × (way on off v ≡ true) × (way on off (not v) ≡ false)

chosen_cases : (on off : Bool) (s j p : ℕ) {r : Rule} → Memᴰ r (chosen on off s j p) → Chosen on off s j p r
chosen_cases true true s j p here = absurd (Memᴰ.not-nil here)
chosen_cases true false s j p here = (true, Memᴰ.eq_of_singleton here, refl, refl)
chosen_cases false true s j p here = (false, Memᴰ.eq_of_singleton here, refl, refl)
chosen_cases false false s j p here = absurd (Memᴰ.not-nil here)

chosen_has : (on off : Bool) (s j p : ℕ) (v : Bool) → way on off v ≡ true → way on off (not v) ≡ false → Memᴰ (rule s j p v) (chosen on off s j p)
chosen_has true true s j p true a o = absurd (true≢false o)
chosen_has true true s j p false a o = absurd (true≢false o)
chosen_has true false s j p true a o = Memᴰ.head refl
chosen_has true false s j p false a o = absurd (false≢true a)
chosen_has false true s j p true a o = absurd (false≢true a)
chosen_has false true s j p false a o = Memᴰ.head refl
chosen_has false false s j p true a o = absurd (false≢true a)
chosen_has false false s j p false a o = absurd (false≢true a)

chosen_length : (on off : Bool) (s j p : ℕ) → length (chosen on off s j p) ≤ 1
chosen_length true true s j p = omega arith
chosen_length true false s j p = omega arith
chosen_length false true s j p = omega arith
chosen_length false false s j p = omega arith

module _ (n : ℕ) (row s : ℕ) where
  -- at most one rule for each prefix
  pub prefixes_length : (j k : ℕ) → length (concat_below (λ p. rule_at n row s j p) k) ≤ k
  prefixes_length j k =
      let h = concat_length (λ p. rule_at n row s j p) 1 k (λ p. chosen_length (some_open n row j p true) (some_open n row j p false) s j p) in
      omega arith

  -- the rules for the lines below n' are fewer than 2 ^ n'
  pub lines_length : (n' : ℕ) → length (concat_below (λ j. rules_of_line n row s j) n') < 2 ^ n'
  lines_length zero = omega arith
  lines_length (suc n') =
      let h = lines_length n' in
      let l = prefixes_length n' (2 ^ n') in
      let e = pow-suc 2 n' in
      let a = length-append (concat_below (λ j. rules_of_line n row s j) n') (rules_of_line n row s n') in
      omega arith

pub states_length : (n : ℕ) (rows : List ℕ) (k : ℕ) → length (concat_below (λ s. rules_of_state n (get_or rows s 0) s) k) ≤ k * (2 ^ n - 1)
states_length n rows k = concat_length (λ s. rules_of_state n (get_or rows s 0) s) (2 ^ n - 1) k (λ s. let h = lines_length n (get_or rows s 0) s n in omega arith)

module _ (n : ℕ) (rows : List ℕ) where
  pub some_open_decides : (s j p : ℕ) (v : Bool) → Decides (some_open n (get_or rows s 0) j p v) (SomeOpen n rows s j p v)
  some_open_decides s j p v =
      let row = get_or rows s 0 in
      let d = decides_any (λ a. bit row a && goes_on a j p v) (2 ^ n) in (
        λ e.
            let w = d.0 e in
            let parts = and_parts _ _ w.2 in
            let rest = and_parts _ _ parts.1 in
            (w.0, w.1, parts.0, eqb-true _ _ rest.0, (same_decides (bit w.0 j) v).0 rest.1),
        λ w. d.1 (w.0, w.1, and_from _ _ w.2 (and_from _ _ (eq-eqb _ _ w.3) ((same_decides (bit w.0 j) v).1 w.4))),
      )

  -- which way is open, in words
  way_decides : (s j p : ℕ) (v : Bool) → Decides (way (some_open n (get_or rows s 0) j p true) (some_open n (get_or rows s 0) j p false) v) (SomeOpen n rows s j p v)
  way_decides s j p true = some_open_decides s j p true
  way_decides s j p false = some_open_decides s j p false

  -- what `rule_at` has: a rule for this state, line and prefix that stands
  rule_at_only : (b s j p : ℕ) → s < 2 ^ b → j < n → p < 2 ^ j → {r : Rule} → Memᴰ r (rule_at n (get_or rows s 0) s j p) → Stands b n rows r
  rule_at_only b s j p st ln pf {r} here =
      let on = some_open n (get_or rows s 0) j p true in
      let off = some_open n (get_or rows s 0) j p false in
      let w = chosen_cases on off s j p here in
      let v = w.0 in
      let at_rule : Stands b n rows (rule s j p v) =
      record {
        state = st;
        line = ln;
        prefix = pf;
        one_way = (way_decides s j p v).0 w.2;
        not_other = λ other. both_ways _ w.3 ((way_decides s j p (not v)).1 other);
      } in
      subst (λ x. Stands b n rows x) (sym w.1) at_rule

  rule_at_place : (s j p : ℕ) {r : Rule} → Memᴰ r (rule_at n (get_or rows s 0) s j p) → (v : Bool) × (r ≡ rule s j p v)
  rule_at_place s j p here =
      let w = chosen_cases (some_open n (get_or rows s 0) j p true) (some_open n (get_or rows s 0) j p false) s j p here in
      (w.0, w.1)

  rule_at_has : (b : ℕ) (r : Rule) → Stands b n rows r → Memᴰ r (rule_at n (get_or rows r.state 0) r.state r.line r.prefix)
  rule_at_has b r st =
      let s = r.state in
      let j = r.line in
      let p = r.prefix in
      let v = r.value in
      chosen_has (some_open n (get_or rows s 0) j p true) (some_open n (get_or rows s 0) j p false) s j p v
      ((way_decides s j p v).1 st.one_way)
      (false_from_ne_true _ (λ e. st.not_other ((way_decides s j p (not v)).0 e)))

  abbrev of_line : ℕ → ℕ → List Rule
  of_line s j = rules_of_line n (get_or rows s 0) s j

  line_place : (s j : ℕ) {r : Rule} → Memᴰ r (of_line s j) → (r.state ≡ s) × (r.line ≡ j)
  line_place s j here =
      let w = concat_cases (λ p. rule_at n (get_or rows s 0) s j p) (2 ^ j) here in
      let q = rule_at_place s j w.0 w.2 in
      (ap (λ x. x.state) q.1, ap (λ x. x.line) q.1)

  state_place : (s : ℕ) {r : Rule} → Memᴰ r (rules_of_state n (get_or rows s 0) s) → r.state ≡ s
  state_place s here = let w = concat_cases (of_line s) n here in (line_place s w.0 w.2).0

  line_ascends : (s j : ℕ) → Ascends (of_line s j)
  line_ascends s j =
      ascends_concat (λ p. rule_at n (get_or rows s 0) s j p) (2 ^ j)
      (λ p _ i k d lt within. let h = chosen_length (some_open n (get_or rows s 0) j p true) (some_open n (get_or rows s 0) j p false) s j p in absurd (omega arith))
      (λ i k lt _ x y in_x in_y.
      let u = rule_at_place s j i in_x in
      let w = rule_at_place s j k in_y in
      subst₂ Before (sym u.1) (sym w.1) (inr (refl, inr (refl, lt))))

  state_ascends : (s : ℕ) → Ascends (rules_of_state n (get_or rows s 0) s)
  state_ascends s =
      ascends_concat (of_line s) n (λ j _. line_ascends s j)
      (λ i k lt _ x y in_x in_y.
      let u = line_place s i in_x in
      let w = line_place s k in_y in
      inr (u.0 ∙ sym w.0, inl (omega (arith, u.1, w.1))))

  pub lists_standing : (b : ℕ) → ListsStanding b n rows (rules_of b n rows)
  lists_standing b = record {
    only = λ r here.
        let s = concat_cases (λ s. rules_of_state n (get_or rows s 0) s) (2 ^ b) here in
        let j = concat_cases (of_line s.0) n s.2 in
        let p = concat_cases (λ p. rule_at n (get_or rows s.0 0) s.0 j.0 p) (2 ^ j.0) j.2 in
        rule_at_only b s.0 j.0 p.0 s.1 j.1 p.1 p.2;
    every = λ r st.
        concat_has (λ s. rules_of_state n (get_or rows s 0) s) (2 ^ b) r.state st.state
        (concat_has (of_line r.state) n r.line st.line
        (concat_has (λ p. rule_at n (get_or rows r.state 0) r.state r.line p) (2 ^ r.line) r.prefix st.prefix (rule_at_has b r st)));
    ascends =
        ascends_concat (λ s. rules_of_state n (get_or rows s 0) s) (2 ^ b) (λ s _. state_ascends s)
        (λ i k lt _ x y in_x in_y. inl (omega (arith, state_place i in_x, state_place k in_y)));
  }
