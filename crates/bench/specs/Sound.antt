-- A table whose entries fit means a plant within the limits. Assumes nothing.
use Rattle.std.specs.Prelude.{◌≡◌, ℕ, ◌^◌, ◌<◌, Bool, true, List, nat_eq}
use Rattle.std.proofs.Common.{sym, subst}
use Rattle.std.proofs.lemmas.Bool.{and_parts, leb-true, ltb-true, eqb-true}
use Rattle.plant.specs.Meaning.{Within}
use Rattle.plant.specs.Entries.{start_fits}
use Rattle.bench.specs.Entries.{move_fits}
use Rattle.plant.specs.Sizes.{sizes_fit}
use Rattle.std.specs.List.{list_all, list_any}
use Rattle.plant.proofs.Tests.{some_fits}
use Rattle.bench.specs.Table.{table_fits, table_meaning, leaves, goes}
use Rattle.bench.specs.declared.entry.Move.{Move}

module _ (b n : ℕ) (starts : List ℕ) (moves : List Move) (fits : table_fits b n starts moves ≡ true) where
  sizes : sizes_fit b n ≡ true
  sizes = (and_parts _ _ fits).0

  entries : (list_all (start_fits (2 ^ b) (2 ^ n)) starts ≡ true) × (list_all (move_fits (2 ^ b) (2 ^ n)) moves ≡ true)
  entries = and_parts _ _ (and_parts (sizes_fit b n) _ fits).1

  listed_start : (t : ℕ) → list_any (nat_eq t) starts ≡ true → t < 2 ^ b
  listed_start t some =
      let w = some_fits (start_fits (2 ^ b) (2 ^ n)) (nat_eq t) starts entries.0 some in
      subst (λ k. k < 2 ^ b) (sym (eqb-true t w.0 w.2)) (ltb-true _ _ w.1)

  -- a move within the sizes that passes q
  listed_move : (q : Move → Bool) → list_any q moves ≡ true → (v : Move) × (v.from < 2 ^ b) × (v.setting < 2 ^ n) × (v.to < 2 ^ b) × (q v ≡ true)
  listed_move q some =
      let w = some_fits (move_fits (2 ^ b) (2 ^ n)) q moves entries.1 some in
      let from = and_parts _ _ w.1 in
      let rest = and_parts _ _ from.1 in
      (w.0, ltb-true _ _ from.0, ltb-true _ _ rest.0, ltb-true _ _ rest.1, w.2)

  safe_pair : (s a : ℕ) → list_any (leaves s a) moves ≡ true → (s < 2 ^ b) × (a < 2 ^ n)
  safe_pair s a some =
      let w = listed_move (leaves s a) some in
      let is = and_parts _ _ w.4 in
      (subst (λ k. k < 2 ^ b) (eqb-true _ _ is.0) w.1, subst (λ k. k < 2 ^ n) (eqb-true _ _ is.1) w.2)

  following : (s a t : ℕ) → list_any (goes s a t) moves ≡ true → (s < 2 ^ b) × (a < 2 ^ n) × (t < 2 ^ b)
  following s a t some =
      let w = listed_move (goes s a t) some in
      let ends = and_parts _ _ w.4 in
      let is = and_parts _ _ ends.0 in
      (subst (λ k. k < 2 ^ b) (eqb-true _ _ is.0) w.1, subst (λ k. k < 2 ^ n) (eqb-true _ _ is.1) w.2, subst (λ k. k < 2 ^ b) (eqb-true _ _ ends.1) w.3)

  pub table_within : Within (table_meaning b n starts moves)
  table_within =
      let bits = and_parts _ _ (and_parts _ _ sizes).0 in
      let lines = and_parts _ _ (and_parts _ _ sizes).1 in
      record {
        some_bits = leb-true _ _ bits.0;
        few_bits = leb-true _ _ bits.1;
        some_lines = leb-true _ _ lines.0;
        few_lines = leb-true _ _ lines.1;
        start_state = listed_start;
        safe_state = λ s a e. (safe_pair s a e).0;
        safe_setting = λ s a e. (safe_pair s a e).1;
        from_state = λ s a t e. (following s a t e).0;
        from_setting = λ s a t e. (following s a t e).1;
        to_state = λ s a t e. (following s a t e).2;
      }
