-- The lowest letter that depends on itself, and the first clause that clashes. Assumes nothing.
use Rattle.std.proofs.Common.{◌≡◌, ℕ, ◌+◌, ◌^◌, ◌⊎◌, List, [], ◌∷◌, ◌++◌, length, Some, None, Option, sym, refl, ap, ◌∙◌, subst, inl, inr, ⊎_elim}
use mathlib.Core.List.Memᴰ
use mathlib.Core.List.{Memᴰ}
use Rattle.std.specs.List.{flat_map}
use Rattle.std.proofs.lemmas.Bool.{both_ways, cases_order}
use Rattle.plan.specs.Admitted.{ClashFree}
use Rattle.plan.specs.Depends.{LoopFree}
use Rattle.plan.specs.Formed.{letters}
use Rattle.plan.specs.Loops.{first_loop}
use Rattle.plan.specs.Refused.{ClashesIn, ClashesWith, FirstClash, FirstLoop}
use Rattle.plan.specs.Written.{Item, Written, Agreeing, WellWritten, item_bytes, parts_from, start_clause, start_of, next_of, auxiliary_of}
use Rattle.plan.specs.Written.Item.{start, next, auxiliary, ban}
use Rattle.plan.specs.declared.clause.Clause.{Clause}
use Rattle.plan.proofs.Admitting.{auxiliary_letter, free_of_loops, loop_decides}
use Rattle.plan.proofs.Depending.{some_loops}
use Rattle.plan.proofs.Sorting.{joined_from, well_formed}

-- what the search for a loop finds, in words
abbrev pub searched : Written → Option ℕ
searched w = first_loop (flat_map auxiliary_of w.items) (2 ^ (w.bits + w.lines + w.auxiliaries)) (w.bits + w.lines) w.auxiliaries

module _ (w : Written) (good : WellWritten w) where
  pub loop_found : (l : ℕ) → searched w ≡ Some l → FirstLoop w l
  loop_found l is =
      let p = parts_from w in
      let formed = well_formed w good in
      let h = some_loops p.auxes (2 ^ letters p) (p.bits + p.lines) p.auxiliaries l is in
      record {
        auxiliary = (h.0, h.1);
        depends = (loop_decides p formed l h.1).0 h.2;
        lowest = λ k lt d.
            let place = auxiliary_letter p formed k k d in
            both_ways _ (h.3 k place.0 lt) ((loop_decides p formed k place.1).1 d);
      }

  pub no_loop_found : searched w ≡ None → LoopFree (flat_map auxiliary_of w.items)
  no_loop_found = free_of_loops (parts_from w) (well_formed w good)

  one_lowest : (l k : ℕ) → FirstLoop w l → FirstLoop w k → l ≡ k
  one_lowest l k at_l at_k =
      ⊎_elim (λ same. same) (⊎_elim (λ lt. absurd (at_k.lowest l lt at_l.depends)) (λ gt. absurd (at_l.lowest k gt at_k.depends))) (cases_order l k)

  pub finds_loop : (l : ℕ) → FirstLoop w l → searched w ≡ Some l
  finds_loop l is = by (searched w) refl
    where
      by : (o : Option ℕ) → searched w ≡ o → searched w ≡ Some l
      by None e = absurd (no_loop_found e l is.depends)
      by (Some k) e = e ∙ ap Some (one_lowest k l (loop_found k e) is)

  pub finds_none : LoopFree (flat_map auxiliary_of w.items) → searched w ≡ None
  finds_none free = by (searched w) refl
    where
      by : (o : Option ℕ) → searched w ≡ o → searched w ≡ None
      by None e = e
      by (Some l) e = absurd (free l (loop_found l e).depends)

-- what is in one of the lists is in the lists together
joined_to : {X Y : Type 0} (f : X → List Y) (xs : List X) {x : X} {y : Y} → Memᴰ x xs → Memᴰ y (f x) → Memᴰ y (flat_map f xs)
joined_to f [] at_x at_y = absurd (Memᴰ.not-nil at_x)
joined_to {Y = Y} f (z ∷ xs) {y = y} at_x at_y =
    ⊎_elim (λ is. Memᴰ.append_left (flat_map f xs) (subst (λ u. Memᴰ y (f u)) is at_y)) (λ later. Memᴰ.append_right (f z) (joined_to f xs later at_y)) (Memᴰ.cases_cons at_x)

-- a clause that clashes with one of its kind before it stands in the way of agreement
pub in_the_way : (before : List Item) (i : Item) (after : List Item) → ClashesWith before i → Agreeing (before ++ (i ∷ after)) → ⊥
in_the_way before i after bad agreed = by i bad agreed
  where
    both : (f : Item → List Clause) (j : Item) (c : Clause) → Memᴰ c (f j) → ClashesIn (flat_map f before) c → ClashFree (flat_map f (before ++ (j ∷ after))) → ⊥
    both f j c own found free =
        let old = joined_from f before found.1 in
        free c found.0 (joined_to f (before ++ (j ∷ after)) (Memᴰ.append_right before (Memᴰ.head refl)) own)
        (joined_to f (before ++ (j ∷ after)) (Memᴰ.append_left (j ∷ after) old.1) old.2) found.2

    by : (j : Item) → ClashesWith before j → Agreeing (before ++ (j ∷ after)) → ⊥
    by (start l v) found g = both start_of (start l v) (start_clause l v) (Memᴰ.head refl) found g.starts
    by (next c) found g = both next_of (next c) c (Memᴰ.head refl) found g.nexts
    by (auxiliary c) found g = both auxiliary_of (auxiliary c) c (Memᴰ.head refl) found g.auxes
    by (ban c) found g = found

-- two places in one list: the same, or one before the other
compare : {X : Type 0} (p q : List X) (i j : X) (a b : List X) → p ++ (i ∷ a) ≡ q ++ (j ∷ b) → (p ≡ q) ⊎ (((c : List X) × (q ≡ p ++ (i ∷ c))) ⊎ ((c : List X) × (p ≡ q ++ (j ∷ c))))
compare [] [] i j a b e = inl refl
compare {X} [] (y ∷ q) i j a b e = let same : i ≡ y = cc in inr (inl (q, ap (λ (z : X). z ∷ q) (sym same)))
compare {X} (x ∷ p) [] i j a b e = let same : x ≡ j = cc in inr (inr (p, ap (λ (z : X). z ∷ p) same))
compare {X} (x ∷ p) (y ∷ q) i j a b e =
    let same : x ≡ y = cc in
    let rest : p ++ (i ∷ a) ≡ q ++ (j ∷ b) = cc in
    ⊎_elim (λ is. inl (ap (λ (z : X). z ∷ p) same ∙ ap (λ zs. y ∷ zs) is))
    (⊎_elim (λ w. inr (inl (w.0, ap (λ (z : X). z ∷ q) (sym same) ∙ ap (λ zs. x ∷ zs) w.1))) (λ w. inr (inr (w.0, ap (λ (z : X). z ∷ p) same ∙ ap (λ zs. y ∷ zs) w.1))))
    (compare p q i j a b rest)

-- only one clause is the first that clashes
pub one_first : (w : Written) (o k : ℕ) → FirstClash w o → FirstClash w k → o ≡ k
one_first w o k x y =
    ⊎_elim (λ same. x.place ∙ ap (λ items. 4 + length (flat_map item_bytes items)) same ∙ sym y.place)
    (⊎_elim
    (λ c. absurd (in_the_way x.before x.item c.0 x.clashes (subst Agreeing c.1 y.first)))
    (λ c. absurd (in_the_way y.before y.item c.0 y.clashes (subst Agreeing c.1 x.first))))
    (compare x.before y.before x.item y.item x.after y.after (sym x.split ∙ y.split))

pub first_in_the_way : (w : Written) (o : ℕ) → FirstClash w o → Agreeing w.items → ⊥
first_in_the_way w o x agreed = in_the_way x.before x.item x.after x.clashes (subst Agreeing x.split agreed)
