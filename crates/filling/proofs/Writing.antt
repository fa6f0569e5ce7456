-- Lists written one after another into lent places. Assumes nothing.
use Rattle.std.proofs.Common.{◌≡◌, ℕ, ◌+◌, ◌<◌, ◌≤◌, List, [], ◌∷◌, ◌++◌, length, take, drop, set, sym, ap, ◌∙◌, ap₂, add-one, arith}
use Rattle.std.proofs.lemmas.List.{append_assoc, length-append, length-take-le, take-append-drop, take_at, drop_at, drop-drop, set_split}
use Rattle.filling.specs.Writing.{Wrote}

module _ {X : Type 0} where
  pub wrote_none : (before : List X) (at : ℕ) → Wrote before before at at []
  wrote_none before at = record { ends = omega arith; places = sym (take-append-drop at before) }

  pub wrote_one : (before : List X) (at : ℕ) (x : X) → at < length before → Wrote before (set before at x) at (at + 1) (x ∷ [])
  wrote_one before at x lt = record { ends = omega arith; places = set_split before at x lt ∙ ap (λ k. take at before ++ (x ∷ drop k before)) (sym (add-one at)) }

  pub wrote_more : (before mid after : List X) (at m end : ℕ) (xs ys : List X) → m ≤ length before → Wrote before mid at m xs → Wrote mid after m end ys → Wrote before after at end (xs ++ ys)
  wrote_more before mid after at m end xs ys fits w v =
      record {
        ends = let l = length-append xs ys in let e = w.ends in let f = v.ends in omega arith;
        places = v.places ∙ ap₂ (λ a b. a ++ (ys ++ b)) front back ∙ append_assoc (take at before) xs (ys ++ drop end before) ∙
            ap (λ z. take at before ++ z) (sym (append_assoc xs ys (drop end before)));
      }
    where
      head_size : length (take at before ++ xs) ≡ m
      head_size =
          let l = length-append (take at before) xs in
          let e = w.ends in
          let t = length-take-le at before (omega arith) in
          omega arith

      joined : mid ≡ (take at before ++ xs) ++ drop m before
      joined = w.places ∙ sym (append_assoc (take at before) xs (drop m before))

      front : take m mid ≡ take at before ++ xs
      front = ap (take m) joined ∙ take_at (take at before ++ xs) (drop m before) m head_size

      rest : drop m mid ≡ drop m before
      rest = ap (drop m) joined ∙ drop_at (take at before ++ xs) (drop m before) m head_size

      later : (xs : List X) → drop end xs ≡ drop (length ys) (drop m xs)
      later zs = ap (λ k. drop k zs) v.ends ∙ sym (drop-drop (length ys) m zs)

      back : drop end mid ≡ drop end before
      back = later mid ∙ ap (drop (length ys)) rest ∙ sym (later before)
