-- Lists that grow in lent places, part by part. Assumes nothing.
use Rattle.std.proofs.Common.{ℕ, ◌≡◌, Ok, Err, Result, MatchResult, List, [], ◌++◌, length, take, drop, refl, ap, ap₂, ◌∙◌, arith}
use Rattle.std.proofs.lemmas.List.{append-nil, drop_all}
use Rattle.filling.specs.Adding.{Added, HasRoom}
use Rattle.filling.specs.declared.Filling.{Filling}
use Rattle.filling.proofs.Writing.{wrote_none, wrote_more}

module _ {X : Type 0} where
  pub added_none : (f : Filling X) → Added f f []
  added_none f = record { same_places = refl; size = refl; within = f.within; wrote = wrote_none f.places.now f.filled }

  pub added_more : {f g h : Filling X} {xs ys : List X} → Added f g xs → Added g h ys → Added f h (xs ++ ys)
  added_more a b = record {
    same_places = b.same_places ∙ a.same_places;
    size = b.size ∙ a.size;
    within = omega arith;
    wrote = wrote_more _ _ _ _ _ _ _ _ a.within a.wrote b.wrote;
  }

  -- what was added to places of which none was filled
  pub added_first : {f g : Filling X} {xs : List X} (before : List X) → f.places.now ≡ before → f.filled ≡ 0 → Added f g xs → g.places.now ≡ xs ++ drop (length xs) before
  added_first {f} {g} {xs} before same none a =
      let ends : g.filled ≡ length xs = let e = a.wrote.ends in omega arith in
      a.wrote.places ∙ ap₂ (λ at places. take at places ++ (xs ++ drop g.filled places)) none same ∙ ap (λ k. xs ++ drop k before) ends

  -- the same, where the items fill all the places
  pub added_all : {f g : Filling X} {xs : List X} (before : List X) → f.places.now ≡ before → f.filled ≡ 0 → length xs ≡ length before → Added f g xs → g.places.now ≡ xs
  added_all {f} {g} {xs} before same none size a = added_first before same none a ∙ ap (λ ys. xs ++ ys) (drop_all (length xs) before (omega arith)) ∙ append-nil xs

  -- where there is room, the items are added
  pub added_in_room : {E : Type 0} {f g : Filling X} (n : ℕ) (xs : List X) (r : Result (Unit {0}) E) → HasRoom f n → MatchResult r (λ _. Added f g xs) (λ _. (HasRoom f n → ⊥) × (g ≡ f)) → Added f g xs
  added_in_room n xs (Ok _) room added = added
  added_in_room n xs (Err _) room full = absurd (full.0 room)
