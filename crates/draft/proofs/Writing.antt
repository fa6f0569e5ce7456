-- Lists written into lent places part by part. Assumes nothing.
use Rattle.std.proofs.Common.{ℕ, ◌+◌, List, sym, subst, add-one}
use Rattle.filling.specs.Adding.{Added}
use Rattle.filling.specs.declared.Filling.{Filling}
use Rattle.filling.proofs.Adding.{added_more}
use Rattle.rules.specs.Listing.{concat_below}

-- one part more of a concatenation
pub added_next : {X : Type 0} {f g h : Filling X} (parts : ℕ → List X) (i : ℕ) → Added f g (concat_below parts i) → Added g h (parts i) → Added f h (concat_below parts (i + 1))
added_next {X} {f} {g} {h} parts i before here = subst (λ k. Added f h (concat_below parts k)) (sym (add-one i)) (added_more before here)
