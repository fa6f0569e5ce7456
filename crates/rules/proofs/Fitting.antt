-- The test whether a setting fits, in words. Assumes nothing.
use Rattle.std.proofs.Common.{◌≡◌, ℕ, ◌%◌, ◌^◌, ◌<◌, Bool, true, false, not, List, [], ◌∷◌, Decides, sym, refl, subst, ⊎_elim}
use mathlib.Core.List.Memᴰ
use Rattle.std.proofs.lemmas.Bool.{and_parts, and_from, not-true, not_from_false, lt-ltb, ltb-true, eq-eqb, eqb-true, both_ways}
use Rattle.plant.specs.Bits.{bit}
use Rattle.rules.specs.Fitting.{in_range, breaks, fits, Obeys, Fits}
use Rattle.plant.specs.Tests.{same}
use Rattle.plant.proofs.Tests.{same_decides}
use Rattle.rules.specs.declared.Rule.{Rule}

module _ (b n s a : ℕ) where
  -- a rule that is not broken is obeyed, and the other way round
  pub unbroken_decides : (r : Rule) → Decides (not (breaks b n r s a)) (Obeys b n s a r)
  unbroken_decides r = (
    λ e. record {
      value = λ st ln pf is begins.
          let unbroken = not-true (breaks b n r s a) e in
          value_if_unbroken st ln pf is begins unbroken (same (bit a r.line) r.value) refl;
    },
    λ o. not_from_false (breaks b n r s a) (unbroken o (breaks b n r s a) refl),
  )
    where
      range : r.state < 2 ^ b → r.line < n → r.prefix < 2 ^ r.line → in_range b n r ≡ true
      range st ln pf =
          and_from _ _ (lt-ltb r.state (2 ^ b) st) (and_from _ _ (lt-ltb r.line n ln) (lt-ltb r.prefix (2 ^ r.line) pf))

      value_if_unbroken : r.state < 2 ^ b → r.line < n → r.prefix < 2 ^ r.line → r.state ≡ s → a % 2 ^ r.line ≡ r.prefix → breaks b n r s a ≡ false → (t : Bool) → same (bit a r.line) r.value ≡ t → bit a r.line ≡ r.value
      value_if_unbroken st ln pf is begins whole true e = (same_decides (bit a r.line) r.value).0 e
      value_if_unbroken st ln pf is begins whole false e =
          absurd (both_ways (breaks b n r s a) whole
          (and_from _ _ (range st ln pf)
          (and_from _ _ (and_from _ _ (eq-eqb r.state s is) (eq-eqb (a % 2 ^ r.line) r.prefix begins)) (not_from_false _ e))))

      unbroken : Obeys b n s a r → (t : Bool) → breaks b n r s a ≡ t → breaks b n r s a ≡ false
      unbroken o false e = e
      unbroken o true e =
          let parts = and_parts _ _ e in
          let in_r = and_parts _ _ parts.0 in
          let in_r2 = and_parts _ _ in_r.1 in
          let rest = and_parts _ _ parts.1 in
          let app = and_parts _ _ rest.0 in
          let v = o.value (ltb-true _ _ in_r.0) (ltb-true _ _ in_r2.0) (ltb-true _ _ in_r2.1) (eqb-true _ _ app.0) (eqb-true _ _ app.1) in
          absurd (both_ways _ (not-true _ rest.1) ((same_decides (bit a r.line) r.value).1 v))

  pub fits_decides : (rs : List Rule) → Decides (fits b n rs s a) (Fits b n rs s a)
  fits_decides [] = (λ _ r here. absurd (Memᴰ.not-nil here), λ _. refl)
  fits_decides (r ∷ rs) =
      let first = unbroken_decides r in
      let rest = fits_decides rs in (
        λ e q here.
            let parts = and_parts (not (breaks b n r s a)) (fits b n rs s a) e in
            ⊎_elim
            (λ is. subst (λ x. Obeys b n s a x) (sym is) (first.0 parts.0))
            (λ later. rest.0 parts.1 q later)
            (Memᴰ.cases_cons here),
        λ all. and_from _ _ (first.1 (all r (Memᴰ.head refl))) (rest.1 (λ q here. all q (Memᴰ.tail here))),
      )
