-- The clauses of each kind among the items of a plan. Assumes nothing.
use Rattle.std.proofs.Common.{◌≡◌, ℕ, ◌<◌, true, false, List, [], ◌∷◌, ◌++◌, Decides, sym, refl, ap, ◌∙◌, subst, ⊎_elim}
use mathlib.Core.List.Memᴰ
use mathlib.Core.List.{Memᴰ}
use Rattle.std.specs.List.{flat_map, list_any}
use Rattle.std.proofs.lemmas.List.{append-nil, flat_map_more}
use Rattle.std.proofs.lemmas.Bool.{false≢true}
use Rattle.plant.specs.declared.condition.Condition.{Condition}
use Rattle.plant.proofs.Tests.{some_decides}
use Rattle.plan.specs.Admitted.{ClashFree}
use Rattle.plan.specs.Formed.{WellFormed}
use Rattle.plan.specs.Items.{clash}
use Rattle.plan.specs.Judging.{clashes_with, with_clause}
use Rattle.plan.specs.Refused.{ClashesIn, ClashesWith}
use Rattle.plan.specs.Written.{Item, Written, Agreeing, Formed, WellWritten, parts_from, start_clause, start_of, next_of, auxiliary_of, ban_of}
use Rattle.plan.specs.Written.Item.{start, next, auxiliary, ban}
use Rattle.plan.specs.declared.clause.Clause.{Clause}
use Rattle.plan.proofs.Admitting.{clash_decides, free_more}
use Rattle.plan.proofs.Sizing.{sizes_from}
use Rattle.plan.proofs.Writing.{kind_of, says}

module _ {X Y : Type 0} (f : X → List Y) where
  pub joined_with : (xs : List X) (x : X) → flat_map f (xs ++ (x ∷ [])) ≡ flat_map f xs ++ f x
  joined_with xs x = sym (flat_map_more f [] xs x)

  pub joined_without : (xs : List X) (x : X) → f x ≡ [] → flat_map f (xs ++ (x ∷ [])) ≡ flat_map f xs
  joined_without xs x none = joined_with xs x ∙ ap (λ ys. flat_map f xs ++ ys) none ∙ append-nil (flat_map f xs)

  -- what is in the lists together is in one of them
  pub joined_from : (xs : List X) {y : Y} → Memᴰ y (flat_map f xs) → (x : X) × Memᴰ x xs × Memᴰ y (f x)
  joined_from [] here = absurd (Memᴰ.not-nil here)
  joined_from (x ∷ xs) here =
      ⊎_elim (λ first. (x, Memᴰ.head refl, first)) (λ later. let w = joined_from xs later in (w.0, Memᴰ.tail w.1, w.2)) (Memᴰ.append_cases (f x) here)

-- what a well-written plan holds is well-formed
module _ (w : Written) (good : WellWritten w) where
  abbrev Fine : Item → Type 0
  Fine = Formed w.bits w.lines w.auxiliaries

  of_start : (i : Item) (c : Clause) → Fine i → Memᴰ c (start_of i) → (c.letter < w.bits) × (c.condition ≡ Rattle.plan.specs.Items.always)
  of_start (start l v) c fine here = let is = Memᴰ.eq_of_singleton here in (subst (λ (x : Clause). x.letter < w.bits) (sym is) fine, ap (λ (x : Clause). x.condition) is)
  of_start (next d) c fine here = absurd (Memᴰ.not-nil here)
  of_start (auxiliary d) c fine here = absurd (Memᴰ.not-nil here)
  of_start (ban d) c fine here = absurd (Memᴰ.not-nil here)

  of_next : (i : Item) (c : Clause) → Fine i → Memᴰ c (next_of i) → Fine (next c)
  of_next (start l v) c fine here = absurd (Memᴰ.not-nil here)
  of_next (next d) c fine here = subst (λ (x : Clause). Fine (next x)) (sym (Memᴰ.eq_of_singleton here)) fine
  of_next (auxiliary d) c fine here = absurd (Memᴰ.not-nil here)
  of_next (ban d) c fine here = absurd (Memᴰ.not-nil here)

  of_auxiliary : (i : Item) (c : Clause) → Fine i → Memᴰ c (auxiliary_of i) → Fine (auxiliary c)
  of_auxiliary (start l v) c fine here = absurd (Memᴰ.not-nil here)
  of_auxiliary (next d) c fine here = absurd (Memᴰ.not-nil here)
  of_auxiliary (auxiliary d) c fine here = subst (λ (x : Clause). Fine (auxiliary x)) (sym (Memᴰ.eq_of_singleton here)) fine
  of_auxiliary (ban d) c fine here = absurd (Memᴰ.not-nil here)

  of_ban : (i : Item) (c : Condition) → Fine i → Memᴰ c (ban_of i) → Fine (ban c)
  of_ban (start l v) c fine here = absurd (Memᴰ.not-nil here)
  of_ban (next d) c fine here = absurd (Memᴰ.not-nil here)
  of_ban (auxiliary d) c fine here = absurd (Memᴰ.not-nil here)
  of_ban (ban d) c fine here = subst (λ (x : Condition). Fine (ban x)) (sym (Memᴰ.eq_of_singleton here)) fine

  pub well_formed : WellFormed (parts_from w)
  well_formed = record {
    sizes = sizes_from _ _ _ good.limits;
    starts = λ c here. let i = joined_from start_of w.items here in of_start i.0 c (good.formed i.0 i.1) i.2;
    nexts = λ c here. let i = joined_from next_of w.items here in of_next i.0 c (good.formed i.0 i.1) i.2;
    auxes = λ c here. let i = joined_from auxiliary_of w.items here in of_auxiliary i.0 c (good.formed i.0 i.1) i.2;
    bans = λ c here. let i = joined_from ban_of w.items here in of_ban i.0 c (good.formed i.0 i.1) i.2;
  }

-- one item more
module _ (b n m : ℕ) (items : List Item) where
  abbrev plan_of : List Item → Written
  plan_of is = record { bits = b; lines = n; auxiliaries = m; items = is }

  pub parts_more : (i : Item) → with_clause (parts_from (plan_of items)) (kind_of i) (says i) ≡ parts_from (plan_of (items ++ (i ∷ [])))
  parts_more (start l v) =
      let s = joined_with start_of items (start l v) in
      let x = joined_without next_of items (start l v) refl in
      let a = joined_without auxiliary_of items (start l v) refl in
      let d = joined_without ban_of items (start l v) refl in
      cc
  parts_more (next c) =
      let s = joined_without start_of items (next c) refl in
      let x = joined_with next_of items (next c) in
      let a = joined_without auxiliary_of items (next c) refl in
      let d = joined_without ban_of items (next c) refl in
      cc
  parts_more (auxiliary c) =
      let s = joined_without start_of items (auxiliary c) refl in
      let x = joined_without next_of items (auxiliary c) refl in
      let a = joined_with auxiliary_of items (auxiliary c) in
      let d = joined_without ban_of items (auxiliary c) refl in
      cc
  parts_more (ban c) =
      let s = joined_without start_of items (ban c) refl in
      let x = joined_without next_of items (ban c) refl in
      let a = joined_without auxiliary_of items (ban c) refl in
      let d = joined_with ban_of items (ban c) in
      cc

  -- the computed test for a clash with an item before, in words
  some_clash : (c : Clause) (ds : List Clause) → Decides (list_any (clash c) ds) (ClashesIn ds c)
  some_clash c ds =
      let d = some_decides (clash c) ds in
      (λ e. let w = d.0 e in (w.0, w.1, (clash_decides c w.0).0 w.2), λ w. d.1 (w.0, w.1, (clash_decides c w.0).1 w.2))

  pub clash_told : (i : Item) → Decides (clashes_with (parts_from (plan_of items)) (kind_of i) (says i)) (ClashesWith items i)
  clash_told (start l v) = some_clash (start_clause l v) (flat_map start_of items)
  clash_told (next c) = some_clash c (flat_map next_of items)
  clash_told (auxiliary c) = some_clash c (flat_map auxiliary_of items)
  clash_told (ban c) = (λ e. false≢true e, λ w. absurd w)

  -- an item that clashes with none before it
  pub agreeing_more : (i : Item) → clashes_with (parts_from (plan_of items)) (kind_of i) (says i) ≡ false → Agreeing items → Agreeing (items ++ (i ∷ []))
  agreeing_more (start l v) none g = record {
    starts = subst ClashFree (sym (joined_with start_of items (start l v))) (free_more true _ (start_clause l v) (λ _. none) g.starts);
    nexts = subst ClashFree (sym (joined_without next_of items (start l v) refl)) g.nexts;
    auxes = subst ClashFree (sym (joined_without auxiliary_of items (start l v) refl)) g.auxes;
  }
  agreeing_more (next c) none g = record {
    starts = subst ClashFree (sym (joined_without start_of items (next c) refl)) g.starts;
    nexts = subst ClashFree (sym (joined_with next_of items (next c))) (free_more true _ c (λ _. none) g.nexts);
    auxes = subst ClashFree (sym (joined_without auxiliary_of items (next c) refl)) g.auxes;
  }
  agreeing_more (auxiliary c) none g = record {
    starts = subst ClashFree (sym (joined_without start_of items (auxiliary c) refl)) g.starts;
    nexts = subst ClashFree (sym (joined_without next_of items (auxiliary c) refl)) g.nexts;
    auxes = subst ClashFree (sym (joined_with auxiliary_of items (auxiliary c))) (free_more true _ c (λ _. none) g.auxes);
  }
  agreeing_more (ban c) none g = record {
    starts = subst ClashFree (sym (joined_without start_of items (ban c) refl)) g.starts;
    nexts = subst ClashFree (sym (joined_without next_of items (ban c) refl)) g.nexts;
    auxes = subst ClashFree (sym (joined_without auxiliary_of items (ban c) refl)) g.auxes;
  }
