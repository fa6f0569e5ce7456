-- Tests over truth values and lists, in words. Assumes nothing.
use Rattle.std.proofs.Common.{◌≡◌, ℕ, suc, ◌<◌, Bool, true, false, List, [], ◌∷◌, length, get_or, Decides, sym, refl, subst, ⊎_elim, arith}
use mathlib.Core.List.Memᴰ
use mathlib.Core.List.{Memᴰ}
use Rattle.std.proofs.lemmas.Bool.{and_from, and_parts, or_cases, or_left, or_right, false≢true}
use Rattle.plant.specs.Tests.{same}
use Rattle.std.specs.List.{list_all, list_any}

-- equal truth values, and only those, are the same
pub same_decides : (u v : Bool) → Decides (same u v) (u ≡ v)
same_decides true v = (λ e. sym e, λ e. sym e)
same_decides false true = (λ e. absurd (false≢true e), λ e. absurd (false≢true e))
same_decides false false = (λ _. refl, λ _. refl)

-- p holds at every place
pub all_from_places : {X : Type 0} (p : X → Bool) (xs : List X) → ((k : ℕ) (d : X) → k < length xs → p (get_or xs k d) ≡ true) → list_all p xs ≡ true
all_from_places p [] each = refl
all_from_places p (x ∷ xs) each = and_from (p x) (list_all p xs) (each 0 x (omega arith)) (all_from_places p xs (λ k d lt. each (suc k) d (omega arith)))

-- some element passes the test
pub some_decides : {X : Type 0} (q : X → Bool) (xs : List X) → Decides (list_any q xs) ((x : X) × Memᴰ x xs × (q x ≡ true))
some_decides q [] = (λ e. absurd (false≢true e), λ w. absurd (Memᴰ.not-nil w.1))
some_decides {X} q (x ∷ xs) =
    let rest = some_decides q xs in (
      λ e. ⊎_elim
          (λ here. (x, Memᴰ.head refl, here))
          (λ later. let w = rest.0 later in (w.0, Memᴰ.tail w.1, w.2))
          (or_cases (q x) (list_any q xs) e),
      λ w. ⊎_elim
          (λ is. or_left (q x) _ (subst (λ (y : X). q y ≡ true) is w.2))
          (λ later. or_right (q x) _ (rest.1 (w.0, later, w.2)))
          (Memᴰ.cases_cons w.1),
    )

-- a test for one element asks whether the list has it
pub one_decides : {X : Type 0} (q : X → Bool) (x : X) → ((y : X) → Decides (q y) (y ≡ x)) → (xs : List X) → Decides (list_any q xs) (Memᴰ x xs)
one_decides {X} q x is xs =
    let d = some_decides q xs in (
      λ e. let w = d.0 e in subst (λ (y : X). Memᴰ y xs) ((is w.0).0 w.2) w.1,
      λ here. d.1 (x, here, (is x).1 refl),
    )

-- what passes one test, in a list where all pass another, passes both somewhere
pub some_fits : {X : Type 0} (p q : X → Bool) (xs : List X) → list_all p xs ≡ true → list_any q xs ≡ true → (x : X) × (p x ≡ true) × (q x ≡ true)
some_fits p q [] all some = absurd (false≢true some)
some_fits p q (x ∷ xs) all some =
    let parts = and_parts (p x) (list_all p xs) all in
    ⊎_elim (λ here. (x, parts.0, here)) (λ later. some_fits p q xs parts.1 later) (or_cases (q x) (list_any q xs) some)
