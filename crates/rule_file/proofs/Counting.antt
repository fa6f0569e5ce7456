-- There are not more rules in order than states, lines and prefixes. Assumes nothing.
use Rattle.std.proofs.Common.{◌≡◌, ℕ, zero, suc, ◌+◌, ◌-◌, ◌*◌, ◌^◌, ◌<◌, ◌≤◌, false, List, [], ◌∷◌, length, get_or, refl, ap, ◌∙◌, inl, inr, ⊎_elim, mul-le-mul_right, suc-mul, pow-suc, add-one, arith, pow_pos, pow_mono}
use mathlib.Core.List.{Memᴰ}
use Rattle.std.proofs.lemmas.Bool.{cases_lt}
use Rattle.rules.specs.Listing.{Before}
use Rattle.rules.specs.declared.Rule.{Rule}
use Rattle.rule_file.specs.Order.{InOrder}

-- twice as many settings of one line more
twice : (k : ℕ) → 2 ^ (k + 1) ≡ 2 ^ k + 2 ^ k
twice k = ap (λ j. 2 ^ j) (add-one k) ∙ pow-suc 2 k ∙ (let e : 2 ^ k * 2 ≡ 2 ^ k + 2 ^ k = omega arith in e)

next_power : (k j : ℕ) → k < j → 2 ^ k + 2 ^ k ≤ 2 ^ j
next_power k j lt = let e = twice k in let up : 2 ^ (k + 1) ≤ 2 ^ j = pow_mono (let h : k + 1 ≤ j = omega arith in h) in omega arith

in_list : (rs : List Rule) (i : ℕ) (d : Rule) → i < length rs → Memᴰ (get_or rs i d) rs
in_list [] i d lt = absurd (omega arith)
in_list (r ∷ rs) zero d lt = Memᴰ.head refl
in_list (r ∷ rs) (suc i) d lt = Memᴰ.tail (in_list rs i d (omega arith))

-- the place of a rule among those of its state
abbrev place : Rule → ℕ
place r = (2 ^ r.line - 1) + r.prefix

module _ (b n : ℕ) where
  -- the place of a rule among all that there can be
  abbrev rank : Rule → ℕ
  rank r = r.state * (2 ^ n - 1) + place r

  abbrev Ranges : Rule → Type 0
  Ranges r = (r.state < 2 ^ b) × (r.line < n) × (r.prefix < 2 ^ r.line)

  place_small : (r : Rule) → Ranges r → place r < 2 ^ n - 1
  place_small r ok = let up = next_power r.line n ok.1 in let p = ok.2 in let some = pow_pos r.line in omega arith

  next_state : (s t : ℕ) → s < t → s * (2 ^ n - 1) + (2 ^ n - 1) ≤ t * (2 ^ n - 1)
  next_state s t lt =
      let up : suc s * (2 ^ n - 1) ≤ t * (2 ^ n - 1) = mul-le-mul_right (2 ^ n - 1) lt in
      let e = suc-mul s (2 ^ n - 1) in
      omega arith

  rank_small : (r : Rule) → Ranges r → rank r < 2 ^ b * (2 ^ n - 1)
  rank_small r ok = let p = place_small r ok in let up = next_state r.state (2 ^ b) ok.0 in omega arith

  rank_less : (r q : Rule) → Ranges r → Ranges q → Before r q → rank r < rank q
  rank_less r q ok also (inl s) = let p = place_small r ok in let up = next_state r.state q.state s in omega arith
  rank_less r q ok also (inr (s, inl l)) =
      let e = ap (λ x. x * (2 ^ n - 1)) s in
      let up = next_power r.line q.line l in
      let p = ok.2 in
      let some = pow_pos r.line in
      omega arith
  rank_less r q ok also (inr (s, inr (l, p))) =
      let e = ap (λ x. x * (2 ^ n - 1)) s in
      let f = ap (λ x. 2 ^ x) l in
      omega arith

  module _ (rs : List Rule) (ok : InOrder b n rs) where
    ranges_at : (i : ℕ) (d : Rule) → i < length rs → Ranges (get_or rs i d)
    ranges_at i d lt = ok.ranges (get_or rs i d) (in_list rs i d lt)

    rank_at : (i : ℕ) (d : Rule) → i < length rs → i ≤ rank (get_or rs i d)
    rank_at zero d lt = omega arith
    rank_at (suc i) d lt =
        let before = rank_at i d (omega arith) in
        let up = rank_less (get_or rs i d) (get_or rs (suc i) d) (ranges_at i d (omega arith)) (ranges_at (suc i) d lt) (ok.ascends i (suc i) d (omega arith) lt) in
        omega arith

    pub few_rules : length rs ≤ 2 ^ b * (2 ^ n - 1)
    few_rules = ⊎_elim
        (λ some.
        let d : Rule = record { state = 0; line = 0; prefix = 0; value = false } in
        let last : length rs - 1 < length rs = omega arith in
        let least = rank_at (length rs - 1) d last in
        let most = rank_small (get_or rs (length rs - 1) d) (ranges_at (length rs - 1) d last) in
        omega arith)
        (λ none. omega arith)
        (cases_lt 0 (length rs))
