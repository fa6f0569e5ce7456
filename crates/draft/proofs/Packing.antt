-- A row put together setting by setting. Assumes nothing.
use Rattle.std.proofs.Common.{◌≡◌, ℕ, zero, suc, ◌+◌, ◌^◌, ◌<◌, ◌≤◌, Bool, true, false, cond, List, ◌∷◌, fold, sym, refl, ap, ◌∙◌, one-mul, add-zero, add-one, zero-add, arith}
use lib.Bits.{bit_or}
use Rattle.std.specs.List.{filter, range_with_len}
use Rattle.std.proofs.lemmas.Nat.{one_shl, or_comm, or_shifted}
use Rattle.plant.specs.Bits.{pack}
use Rattle.plant.specs.Meaning.{most_lines}
use Rattle.plant.proofs.Bits.{pack_small}
use Rattle.draft.specs.Rows.{with_open}

-- a setting above those that are open
with_open_above : (row a : ℕ) → row < 2 ^ a → a < 2 ^ most_lines → with_open row a ≡ 2 ^ a + row
with_open_above row a small few =
    ap (bit_or row) (one_shl a (2 ^ most_lines) few) ∙ or_comm row (2 ^ a) ∙ ap (λ z. bit_or z row) (sym (one-mul (2 ^ a))) ∙
    or_shifted 1 a row small ∙ ap (λ z. z + row) (one-mul (2 ^ a))

module _ (p : ℕ → Bool) where
  -- one setting more
  packed_next : (a : ℕ) (t : Bool) → p a ≡ t → a < 2 ^ most_lines → (more : List ℕ) (end : ℕ) → fold with_open (pack p (a + 1)) more ≡ end → fold with_open (pack p a) (cond t (a ∷ more) more) ≡ end
  packed_next a true e few more end all =
      ap (λ row. fold with_open row more) (with_open_above (pack p a) a (pack_small p a) few ∙ sym (ap (pack p) (add-one a) ∙ ap (λ b. cond b (2 ^ a) 0 + pack p a) e)) ∙ all
  packed_next a false e few more end all =
      ap (λ row. fold with_open row more) (sym (zero-add (pack p a)) ∙ sym (ap (pack p) (add-one a) ∙ ap (λ b. cond b (2 ^ a) 0 + pack p a) e)) ∙ all

  pub packed : (a n : ℕ) → a + n ≤ 2 ^ most_lines → fold with_open (pack p a) (filter p (range_with_len a n)) ≡ pack p (a + n)
  packed a zero few = ap (pack p) (sym (add-zero a))
  packed a (suc n) few =
      let j : (a + 1) + n ≡ a + suc n = omega arith in
      packed_next a (p a) refl (omega arith) (filter p (range_with_len (a + 1) n)) (pack p (a + suc n)) (packed (a + 1) n (omega arith) ∙ ap (pack p) j)
