-- The rules that stand say the same as the row, in a state where some setting is open. Assumes nothing.
use Rattle.std.proofs.Common.{◌≡◌, ℕ, zero, suc, ◌%◌, ◌^◌, ◌<◌, ◌≤◌, Bool, true, false, not, ◌⊎◌, List, get_or, sym, refl, ◌∙◌, subst, inl, inr, ⊎_elim, mod-eq_of_lt, arith, pow_pos}
use native.Mathlib.Nat.{mod-one}
use Rattle.std.proofs.lemmas.Nat.{mod_below}
use Rattle.std.proofs.lemmas.Bool.{both_ways}
use Rattle.plant.specs.Bits.{bit}
use Rattle.plant.proofs.Bits.{prefix_more}
use Rattle.plant.proofs.Bounded.{same_tests}
use Rattle.rules.specs.Fitting.{fits, Fits}
use Rattle.rules.specs.Listing.{some_open, SomeOpen, Stands, ListsStanding}
use Rattle.rules.specs.declared.Rule.{Rule}
use Rattle.rules.proofs.Fitting.{fits_decides}
use Rattle.rules.proofs.Listing.{some_open_decides}

same_or_other : (u v : Bool) → (u ≡ v) ⊎ (u ≡ not v)
same_or_other true true = inl refl
same_or_other true false = inr refl
same_or_other false true = inr refl
same_or_other false false = inl refl

not_both : (u v : Bool) → u ≡ not v → u ≡ v → ⊥
not_both true true e f = both_ways true e refl
not_both true false e f = both_ways true f refl
not_both false true e f = both_ways false refl f
not_both false false e f = both_ways false refl e

module _ (b n : ℕ) (rows : List ℕ) (rs : List Rule) (listed : ListsStanding b n rows rs) (s : ℕ) (state : s < 2 ^ b) where
  -- an open setting obeys every rule that stands
  open_obeys : (a : ℕ) → a < 2 ^ n → bit (get_or rows s 0) a ≡ true → Fits b n rs s a
  open_obeys a small is_open r here = record {
    value = λ st ln pf is begins.
        let stands = listed.only r here in
        ⊎_elim
        (λ e. e)
        (λ other. absurd (stands.not_other (a, small, subst (λ k. bit (get_or rows k 0) a ≡ true) (sym is) is_open, begins, other)))
        (same_or_other (bit a r.line) r.value);
  }

  -- some open setting agrees with a on the lines below j
  abbrev Agrees : ℕ → ℕ → Type 0
  Agrees a j = (c : ℕ) × (c < 2 ^ n) × (bit (get_or rows s 0) c ≡ true) × (c % 2 ^ j ≡ a % 2 ^ j)

  -- where line j of a differs from every open setting that agrees so far, a breaks a rule
  no_such : (a j : ℕ) → Fits b n rs s a → j < n → (w : Agrees a j) → bit a j ≡ not (bit w.0 j) → (SomeOpen n rows s j (a % 2 ^ j) (bit a j) → ⊥) → ⊥
  no_such a j obeys lt w differs none =
      let r : Rule = record { state = s; line = j; prefix = a % 2 ^ j; value = bit w.0 j } in
      let low : a % 2 ^ j < 2 ^ j = mod_below a (2 ^ j) (pow_pos j) in
      let stands : Stands b n rows r =
      record {
        state = state;
        line = lt;
        prefix = low;
        one_way = (w.0, w.1, w.2, w.3, refl);
        not_other = λ o. none (o.0, o.1, o.2, o.3, o.4 ∙ sym differs);
      } in
      not_both (bit a j) (bit w.0 j) differs ((obeys r (listed.every r stands)).value state lt low refl refl)

  agrees_more : (a j : ℕ) → Fits b n rs s a → j < n → Agrees a j → Agrees a (suc j)
  agrees_more a j obeys lt w =
      ⊎_elim
      (λ same_bit. (w.0, w.1, w.2, prefix_more w.0 a j w.3 (sym same_bit)))
      (λ differs. found (some_open n (get_or rows s 0) j (a % 2 ^ j) (bit a j)) refl differs)
      (same_or_other (bit a j) (bit w.0 j))
    where
      found : (t : Bool) → some_open n (get_or rows s 0) j (a % 2 ^ j) (bit a j) ≡ t → bit a j ≡ not (bit w.0 j) → Agrees a (suc j)
      found true e differs =
          let o = (some_open_decides n rows s j (a % 2 ^ j) (bit a j)).0 e in
          (o.0, o.1, o.2, prefix_more o.0 a j o.3 o.4)
      found false e differs =
          absurd (no_such a j obeys lt w differs (λ o. both_ways _ e ((some_open_decides n rows s j (a % 2 ^ j) (bit a j)).1 o)))

  agrees : (c : ℕ) → c < 2 ^ n → bit (get_or rows s 0) c ≡ true → (a : ℕ) → Fits b n rs s a → (j : ℕ) → j ≤ n → Agrees a j
  agrees c small is_open a obeys zero le = (c, small, is_open, mod-one c ∙ sym (mod-one a))
  agrees c small is_open a obeys (suc j) le = agrees_more a j obeys le (agrees c small is_open a obeys j (omega arith))

  pub read_back : (c : ℕ) → c < 2 ^ n → bit (get_or rows s 0) c ≡ true → (a : ℕ) → a < 2 ^ n → fits b n rs s a ≡ bit (get_or rows s 0) a
  read_back c c_small c_open a small =
      let d = fits_decides b n s a rs in
      same_tests (fits b n rs s a) (bit (get_or rows s 0) a)
      (λ e.
      let w = agrees c c_small c_open a (d.0 e) n (omega arith) in
      let is : w.0 ≡ a = sym (mod-eq_of_lt w.1) ∙ w.3 ∙ mod-eq_of_lt small in
      subst (λ k. bit (get_or rows s 0) k ≡ true) is w.2)
      (λ e. d.1 (open_obeys a small e))
