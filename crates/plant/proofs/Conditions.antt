-- Conditions over a word, letter by letter. Assumes nothing.
use Rattle.std.proofs.Common.{◌≡◌, ℕ, true, false, eqb, Decides, sym, ap, ◌∙◌, ⊎_elim, arith}
use lib.Bits.{bit_and}
use Rattle.std.proofs.lemmas.Nat.{and_le_r}
use Rattle.std.proofs.lemmas.Bool.{and_parts, and_from, and_cases, eqb-true, eq-eqb, both_ways}
use Rattle.plant.specs.Bits.{bit}
use Rattle.plant.specs.Conditions.{holds, Holds}
use Rattle.plant.specs.declared.condition.Condition.{Condition}
use Rattle.plant.proofs.Bits.{bit_of_and, same_bits, below_pow, no_bits}
use Rattle.plant.proofs.Bounded.{same_tests}

-- every letter of the mask is 1 in the word
ones_decide : (w m : ℕ) → Decides (eqb (bit_and w m) m) ((i : ℕ) → bit m i ≡ true → bit w i ≡ true)
ones_decide w m = (
  λ e i has. (and_parts (bit w i) _ (sym (bit_of_and w m i) ∙ ap (λ x. bit x i) (eqb-true _ _ e) ∙ has)).0,
  λ each.
      eq-eqb _ _ (same_bits (bit_and w m) m m (let l = and_le_r w m in let b = below_pow m in omega arith) (below_pow m)
      (λ i _. bit_of_and w m i ∙ same_tests _ _ (λ e. (and_parts (bit w i) (bit m i) e).1) (λ e. and_from _ _ (each i e) e))),
)

-- every letter of the mask is 0 in the word
zeros_decide : (w m : ℕ) → Decides (eqb (bit_and w m) 0) ((i : ℕ) → bit m i ≡ true → bit w i ≡ false)
zeros_decide w m = (
  λ e i has.
      ⊎_elim (λ f. f) (λ f. absurd (both_ways (bit m i) f has))
      (and_cases (bit w i) (bit m i) (sym (bit_of_and w m i) ∙ ap (λ x. bit x i) (eqb-true _ _ e) ∙ no_bits i)),
  λ each.
      eq-eqb _ _ (same_bits (bit_and w m) 0 m (let l = and_le_r w m in let b = below_pow m in omega arith) (let b = below_pow m in omega arith)
      (λ i _. bit_of_and w m i ∙ same_tests _ _ (λ e. let p = and_parts (bit w i) (bit m i) e in absurd (both_ways _ (each i p.1) p.0)) (λ e. absurd (both_ways _ (no_bits i) e)))),
)

-- a condition that holds, letter by letter
pub holds_decides : (c : Condition) (w : ℕ) → Decides (holds c w) (Holds c w)
holds_decides c w =
    let ones = ones_decide w c.ones in
    let zeros = zeros_decide w c.zeros in (
      λ e. let parts = and_parts _ _ e in record { on = ones.0 parts.0; off = zeros.0 parts.1 },
      λ h. and_from _ _ (ones.1 h.on) (zeros.1 h.off),
    )
