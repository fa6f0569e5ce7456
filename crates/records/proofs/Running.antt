-- Going through a file record by record: one record more, and what holds of the whole. Assumes nothing.
use Rattle.std.proofs.Common.{◌≡◌, ℕ, zero, suc, pred, ◌+◌, ◌<◌, ◌≤◌, sym, refl, ap, ◌∙◌, arith}
use Rattle.records.specs.Running.{Next, over, onward, and_then, run_records}

-- past the size there is nothing to go on with
module _ {S R : Type 0} (step : S → ℕ → Next S R) (cut : S → ℕ → R) (size : ℕ) (past : (s : S) (at : ℕ) → size ≤ at → step s at ≡ over (cut s at)) where
  -- with enough records left, one can be taken
  unrolled : (f : ℕ) (s : S) (at : ℕ) → size ≤ at + f → run_records step cut f s at ≡ and_then (λ t end. run_records step cut (pred f) t end) (step s at)
  unrolled zero s at enough = sym (ap (and_then (λ t end. run_records step cut (pred zero) t end)) (past s at (omega arith)))
  unrolled (suc f) s at enough = refl

  pub over_here : (f : ℕ) (s : S) (at : ℕ) (r : R) → size ≤ at + f → step s at ≡ over r → run_records step cut f s at ≡ r
  over_here f s at r enough is = unrolled f s at enough ∙ ap (and_then (λ t end. run_records step cut (pred f) t end)) is

  pub onward_here : (f : ℕ) (s : S) (at : ℕ) (t : S) (end : ℕ) → size ≤ at + f → step s at ≡ onward t end → run_records step cut f s at ≡ run_records step cut (pred f) t end
  onward_here f s at t end enough is = unrolled f s at enough ∙ ap (and_then (λ u e. run_records step cut (pred f) u e)) is

  -- what every step keeps, and what it shows where all is over, holds of the whole
  pub run_keeps : (P : S → ℕ → Type 0) (Q : R → Type 0) → ((s : S) (at : ℕ) (r : R) → P s at → step s at ≡ over r → Q r)
      → ((s : S) (at : ℕ) (t : S) (end : ℕ) → P s at → step s at ≡ onward t end → P t end × (at < end))
      → (f : ℕ) (s : S) (at : ℕ) → size ≤ at + f → P s at → Q (run_records step cut f s at)
  run_keeps P Q done goes zero s at enough p = done s at (cut s at) p (past s at (omega arith))
  run_keeps P Q done goes (suc f) s at enough p = by (λ t end left q. run_keeps P Q done goes f t end left q) (step s at) refl
    where
      by : ((t : S) (end : ℕ) → size ≤ end + f → P t end → Q (run_records step cut f t end)) → (x : Next S R) → step s at ≡ x → Q (and_then (λ t end. run_records step cut f t end) x)
      by later (over r) is = done s at r p is
      by later (onward t end) is =
          let w = goes s at t end p is in
          let lt = w.1 in
          later t end (omega arith) w.0
