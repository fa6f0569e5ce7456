-- Bans laid over bans are all of them laid at once. Assumes nothing.
use Rattle.std.proofs.Common.{◌≡◌, ℕ, Bool, true, false, not, ◌&&◌, ◌||◌, List, ◌++◌, sym, refl, ap, ◌∙◌}
use Rattle.std.proofs.lemmas.List.Folds.{list_any-append}
use Rattle.plant.specs.Conditions.{holds, pair_word}
use Rattle.plant.specs.Meaning.{Meaning}
use Rattle.std.specs.List.{list_any}
use Rattle.plant.specs.declared.condition.Condition.{Condition}
use Rattle.layers.specs.Banned.{banned_meaning}

neither : (safe x y : Bool) → ((safe && not x) && not y) ≡ (safe && not (x || y))
neither true true y = refl
neither true false y = refl
neither false x y = refl

twice : (base : Meaning) (lower upper : List Condition) → banned_meaning (banned_meaning base lower) upper ≡ banned_meaning base (lower ++ upper)
twice base lower upper = λ i. record {
  bits = base.bits;
  lines = base.lines;
  start = base.start;
  safe = λ s a. same s a i;
  follows = base.follows;
}
  where
    same : (s a : ℕ) → (banned_meaning (banned_meaning base lower) upper).safe s a ≡ (banned_meaning base (lower ++ upper)).safe s a
    same s a =
        let p : Condition → Bool = λ ban. holds ban (pair_word base.bits s a) in
        neither (base.safe s a) (list_any p lower) (list_any p upper) ∙ ap (λ b. base.safe s a && not b) (sym (list_any-append p lower upper))

pub over_bans : (m : Meaning) (bans : List Condition) (base : Meaning) (lower : List Condition) → m ≡ banned_meaning base lower → banned_meaning m bans ≡ banned_meaning base (lower ++ bans)
over_bans m bans base lower is = ap (λ k. banned_meaning k bans) is ∙ twice base lower bans
