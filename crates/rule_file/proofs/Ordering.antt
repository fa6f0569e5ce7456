-- Lists of rules in order, with one rule more. Assumes nothing.
use Rattle.std.proofs.Common.{◌≡◌, ℕ, zero, suc, ◌+◌, ◌-◌, ◌^◌, ◌<◌, ◌≤◌, true, List, [], ◌∷◌, ◌++◌, length, get_or, Some, Decides, sym, refl, ap, ◌∙◌, subst, subst₂, ⊎_elim, arith}
use mathlib.Core.List.Memᴰ
use mathlib.Core.List.{Memᴰ}
use Rattle.std.proofs.lemmas.List.{get_or_append_left, get_or_push, length-append, length_push}
use Rattle.std.proofs.lemmas.Bool.{cases_eq, cases_lt}
use Rattle.std.proofs.lemmas.Bool.Decides.{nat_tests, Decides-and, Decides-eqb, Decides-ltb, Decides-or}
use Rattle.rules.specs.Fitting.{in_range}
use Rattle.rules.specs.Listing.{Before}
use Rattle.rules.specs.declared.Rule.{Rule}
use Rattle.rule_file.specs.Order.{InOrder, before, last_rule, comes_after}

pub before_decides : (r q : Rule) → Decides (before r q) (Before r q)
before_decides r q =
    Decides-or _ _ (Decides-ltb r.state q.state) (Decides-and _ _ (Decides-eqb r.state q.state)
    (Decides-or _ _ (Decides-ltb r.line q.line) (Decides-and _ _ (Decides-eqb r.line q.line) (Decides-ltb r.prefix q.prefix))))

before_trans : (a b c : Rule) → Before a b → Before b c → Before a c
before_trans a b c first then = grind arith

-- the last rule of a list that is not empty stands at its last place
last_place : (rs : List Rule) (d : Rule) (k : ℕ) → length rs ≡ k + 1 → last_rule rs ≡ Some (get_or rs k d)
last_place [] d k e = grind arith
last_place (r ∷ []) d k e = grind arith
last_place (r ∷ (q ∷ qs)) d zero e = grind arith
last_place (r ∷ (q ∷ qs)) d (suc k) e = last_place (q ∷ qs) d k (omega arith)

last_at : (rs : List Rule) (d : Rule) → 0 < length rs → last_rule rs ≡ Some (get_or rs (length rs - 1) d)
last_at rs d some = last_place rs d (length rs - 1) (omega arith)

range_test : (b n : ℕ) (r : Rule) → Decides (in_range b n r) ((r.state < 2 ^ b) × (r.line < n) × (r.prefix < 2 ^ r.line))
range_test b n r = grind (arith, nat_tests)

module _ (b n : ℕ) where
  pub none_in_order : InOrder b n []
  none_in_order = record { ranges = λ r here. absurd (Memᴰ.not-nil here); ascends = λ i k d lt within. absurd (omega arith) }

  -- a rule in range that comes after the last
  pub push_in_order : (rs : List Rule) (r : Rule) → InOrder b n rs → in_range b n r ≡ true → comes_after (last_rule rs) r ≡ true → InOrder b n (rs ++ (r ∷ []))
  push_in_order rs r ok range last = record {
    ranges = λ q here. ⊎_elim
        (λ old. ok.ranges q old)
        (λ new. subst (λ (x : Rule). (x.state < 2 ^ b) × (x.line < n) × (x.prefix < 2 ^ x.line)) (sym (Memᴰ.eq_of_singleton new)) ((range_test b n r).0 range))
        (Memᴰ.append_cases rs here);
    ascends = λ i k d lt within.
        let size = length_push rs r in
        ⊎_elim
        (λ k_in. subst₂ Before (sym (left i d (omega arith))) (sym (left k d k_in)) (ok.ascends i k d lt k_in))
        (λ k_out.
        let is : length rs ≡ k = omega arith in
        subst₂ Before (sym (left i d (omega arith))) (sym (get_or_push rs r d k is)) (after_each i d (omega arith)))
        (cases_lt k (length rs));
  }
    where
      left : (j : ℕ) (d : Rule) → j < length rs → get_or (rs ++ (r ∷ [])) j d ≡ get_or rs j d
      left j d h = get_or_append_left rs (r ∷ []) d j h

      after_last : (d : Rule) → 0 < length rs → Before (get_or rs (length rs - 1) d) r
      after_last d some = (before_decides (get_or rs (length rs - 1) d) r).0 (ap (λ o. comes_after o r) (sym (last_at rs d some)) ∙ last)

      after_each : (i : ℕ) (d : Rule) → i < length rs → Before (get_or rs i d) r
      after_each i d lt =
          ⊎_elim
          (λ is. subst (λ k. Before (get_or rs k d) r) (sym is) (after_last d (omega arith)))
          (λ ne. before_trans (get_or rs i d) (get_or rs (length rs - 1) d) r (ok.ascends i (length rs - 1) d (omega arith) (omega arith)) (after_last d (omega arith)))
          (cases_eq i (length rs - 1))

  -- the other way round
  pub push_range : (rs : List Rule) (r : Rule) → InOrder b n (rs ++ (r ∷ [])) → in_range b n r ≡ true
  push_range rs r ok = (range_test b n r).1 (ok.ranges r (Memᴰ.append_right rs (Memᴰ.head refl)))

  pub push_after : (rs : List Rule) (r : Rule) → InOrder b n (rs ++ (r ∷ [])) → comes_after (last_rule rs) r ≡ true
  push_after rs r ok = ⊎_elim (λ some. later some) (λ none. first rs none) (cases_lt 0 (length rs))
    where
      first : (qs : List Rule) → length qs ≤ 0 → comes_after (last_rule qs) r ≡ true
      first [] none = refl
      first (q ∷ qs) none = absurd (omega arith)

      later : 0 < length rs → comes_after (last_rule rs) r ≡ true
      later some =
          let size = length_push rs r in
          let up = ok.ascends (length rs - 1) (length rs) r (omega arith) (omega arith) in
          ap (λ o. comes_after o r) (last_at rs r some) ∙
          (before_decides (get_or rs (length rs - 1) r) r).1
          (subst₂ Before (get_or_append_left rs (r ∷ []) r (length rs - 1) (omega arith)) (get_or_push rs r r (length rs) refl) up)

  -- the first rules of a list in order are in order
  pub front_in_order : (rs qs : List Rule) → InOrder b n (rs ++ qs) → InOrder b n rs
  front_in_order rs qs ok = record {
    ranges = λ r here. ok.ranges r (Memᴰ.append_left qs here);
    ascends = λ i k d lt within.
        let size = length-append rs qs in
        subst₂ Before (get_or_append_left rs qs d i (omega arith)) (get_or_append_left rs qs d k within) (ok.ascends i k d lt (omega arith));
  }
