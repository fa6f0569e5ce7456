-- Tests over lists, in words. Assumes nothing.
use Rattle.std.proofs.Common.{◌≡◌, ℕ, true, eqb, List, Decides, sym, refl, ap}
use Rattle.std.proofs.lemmas.Bool.{and_from, and_parts, eqb-true, eq-eqb}
use Rattle.std.specs.List.{list_any}
use Rattle.plant.proofs.Tests.{some_decides, one_decides}
use Rattle.bench.specs.Table.{leaves, goes, table_meaning, TableWords}
use Rattle.bench.specs.declared.entry.Move.{Move}

start_test : (t y : ℕ) → Decides (eqb t y) (y ≡ t)
start_test t y = (λ e. sym (eqb-true t y e), λ e. eq-eqb t y (sym e))

move_test : (s a t : ℕ) (v : Move) → Decides (goes s a t v) (v ≡ record { from = s; setting = a; to = t })
move_test s a t v = (
  λ e.
      let ends = and_parts _ _ e in
      let is = and_parts _ _ ends.0 in
      same_move v (eqb-true _ _ is.0) (eqb-true _ _ is.1) (eqb-true _ _ ends.1),
  λ e. and_from _ _ (and_from _ _ (eq-eqb _ _ (ap (λ (x : Move). x.from) e)) (eq-eqb _ _ (ap (λ (x : Move). x.setting) e))) (eq-eqb _ _ (ap (λ (x : Move). x.to) e)),
)
  where
    same_move : (v : Move) → v.from ≡ s → v.setting ≡ a → v.to ≡ t → v ≡ record { from = s; setting = a; to = t }
    same_move v p q r = λ i. record { from = p i; setting = q i; to = r i }

-- a pair has a move where some state follows it
safe_words : (s a : ℕ) (moves : List Move) → Decides (list_any (leaves s a) moves) ((t : ℕ) × (list_any (goes s a t) moves ≡ true))
safe_words s a moves = (
  λ e.
      let w = (some_decides (leaves s a) moves).0 e in
      (w.0.to, (some_decides (goes s a w.0.to) moves).1 (w.0, w.1, and_from _ _ w.2 (eq-eqb _ _ refl))),
  λ h.
      let w = (some_decides (goes s a h.0) moves).0 h.1 in
      (some_decides (leaves s a) moves).1 (w.0, w.1, (and_parts _ _ w.2).0),
)

pub table_words : (b n : ℕ) (starts : List ℕ) (moves : List Move) → TableWords b n starts moves (table_meaning b n starts moves)
table_words b n starts moves = record {
  bits = refl;
  lines = refl;
  start = λ t. one_decides (eqb t) t (start_test t) starts;
  follows = λ s a t. one_decides (goes s a t) (record { from = s; setting = a; to = t }) (move_test s a t) moves;
  safe = λ s a. safe_words s a moves;
}
