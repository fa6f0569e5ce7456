-- Drafts under two lists of bans, one by one and together. Assumes nothing.
use Rattle.std.proofs.Common.{◌≡◌, ℕ, ◌<◌, Bool, true, false, not, ◌&&◌, ltb, leb, List, ◌++◌, sym, refl, ◌∙◌, arith}
use Rattle.std.proofs.lemmas.Bool.{and_parts, and_from, or_parts, not-true, not_from_false, ltb-true, leb-true, eqb-true}
use Rattle.plant.specs.Conditions.{holds, pair_word}
use Rattle.plant.specs.Meaning.{Meaning, Within}
use Rattle.std.specs.List.{list_any}
use Rattle.plant.specs.declared.condition.Condition.{Condition}
use Rattle.draft.specs.Rows.{open_in, rows_of}
use Rattle.draft.proofs.Largest.{rows_filled}
use Rattle.layers.specs.Banned.{banned_meaning}
use Rattle.layers.specs.Sound.{banned_within}
use Rattle.std.proofs.lemmas.List.Folds.{list_any-append}
use Rattle.overlay.specs.Together.{WithinEach, SmallerTogether}

module _ (m : Meaning) (within : Within m) where
  -- where fewer pairs are safe, no more is open
  fewer_open : (more less : List Condition) → ((s a : ℕ) → (banned_meaning m more).safe s a ≡ true → (banned_meaning m less).safe s a ≡ true) → (s a : ℕ) → open_in (rows_of (banned_meaning m more)) s a ≡ true → open_in (rows_of (banned_meaning m less)) s a ≡ true
  fewer_open more less fewer s a e =
      let UnderMore = rows_filled (banned_meaning m more) (banned_within m more within) in
      let under_less = rows_filled (banned_meaning m less) (banned_within m less within) in
      under_less.largest.all (open_in (rows_of (banned_meaning m more)))
      (record { safe = λ t b h. fewer t b (UnderMore.largest.sound.safe t b h); again = UnderMore.largest.sound.again }) s a e

  -- a pair of which no ban of both lists is true
  module _ (first second : List Condition) (s a : ℕ) (safe : (banned_meaning m (first ++ second)).safe s a ≡ true) where
    abbrev here : Condition → Bool
    here ban = holds ban (pair_word m.bits s a)

    parts : (m.safe s a ≡ true) × (not (list_any here (first ++ second)) ≡ true)
    parts = and_parts (m.safe s a) (not (list_any here (first ++ second))) safe

    none : (list_any here first ≡ false) × (list_any here second ≡ false)
    none = or_parts (list_any here first) (list_any here second) (sym (list_any-append here first second) ∙ not-true (list_any here (first ++ second)) parts.1)

    safe_under_first : (banned_meaning m first).safe s a ≡ true
    safe_under_first = and_from (m.safe s a) _ parts.0 (not_from_false _ none.0)

    safe_under_second : (banned_meaning m second).safe s a ≡ true
    safe_under_second = and_from (m.safe s a) _ parts.0 (not_from_false _ none.1)

pub within_each : WithinEach
within_each m within first second s a e = (
  fewer_open m within (first ++ second) first (λ t b h. safe_under_first m within first second t b h) s a e,
  fewer_open m within (first ++ second) second (λ t b h. safe_under_second m within first second t b h) s a e,
)

pair : {s a : ℕ} → (ltb s 2 && ltb a 2) ≡ true → (s < 2) × (a < 2)
pair {s} {a} e = let w = and_parts (ltb s 2) (ltb a 2) e in (ltb-true s 2 w.0, ltb-true a 2 w.1)

pub smaller_together : SmallerTogether
smaller_together = record {
  machine = record {
    some_bits = omega arith;
    few_bits = omega arith;
    some_lines = omega arith;
    few_lines = omega arith;
    start_state = λ t e. let z = eqb-true t 0 e in omega arith;
    safe_state = λ s a e. (pair {s = s} {a = a} e).0;
    safe_setting = λ s a e. (pair {s = s} {a = a} e).1;
    from_state = λ s a t e. (pair {s = s} {a = a} (and_parts (ltb s 2 && ltb a 2) (leb t a) e).0).0;
    from_setting = λ s a t e. (pair {s = s} {a = a} (and_parts (ltb s 2 && ltb a 2) (leb t a) e).0).1;
    to_state = λ s a t e.
        let w = and_parts (ltb s 2 && ltb a 2) (leb t a) e in
        let small = (pair {s = s} {a = a} w.0).1 in
        let under = leb-true t a w.1 in
        omega arith;
  };
  first = refl;
  second = refl;
  laid_over = refl;
  together = refl;
}
