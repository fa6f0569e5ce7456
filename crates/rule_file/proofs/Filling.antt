-- Rules read into a list, one record after another. Assumes nothing.
use Rattle.std.proofs.Common.{◌≡◌, ℕ, ◌+◌, ◌-◌, ◌*◌, ◌<◌, ◌≤◌, List, [], ◌∷◌, ◌++◌, eqb, map, length, get_or, take, drop, sym, refl, ap, ◌∙◌, subst, arith}
use Rattle.std.specs.List.{range_with_len}
use Rattle.std.proofs.lemmas.List.FromFn.{length-map-range_with_len, map-range_with_len_more}
use Rattle.std.proofs.lemmas.List.{drop_at, drop-drop, get_or-drop, get_or-take, get_or_append_left, length-append, length-drop, length-take-le}
use Rattle.filling.specs.Adding.{Added}
use Rattle.filling.specs.declared.Filling.{Filling}
use Rattle.filling.proofs.Adding.{added_none, added_more, added_first}
use Rattle.rules.specs.declared.Rule.{Rule}
use Rattle.rule_file.specs.Reading.{rule_at}
use Rattle.rule_file.proofs.Records.{rule_same}

-- the rules of the first n records
abbrev pub rules_below : List ℕ → ℕ → List Rule
rules_below bytes n = map (λ k. rule_at bytes (5 * k)) (range_with_len 0 n)

-- the first rules of so many records are written, and the rest of these records is left
pub record FilledUpTo (bytes : List ℕ) (count : ℕ) (f g : Filling Rule) (rest : List ℕ) : Type 0 where
  pub few : g.filled ≤ count
  pub added : Added f g (rules_below bytes g.filled)
  pub left : rest ≡ drop (5 * g.filled) (take (5 * count) bytes)

module _ (bytes : List ℕ) (count : ℕ) (f : Filling Rule) (none : f.filled ≡ 0) (within : 5 * count ≤ length bytes) where
  pub filled_none : (rest : List ℕ) → rest ≡ take (5 * count) bytes → FilledUpTo bytes count f f rest
  filled_none rest same = record {
    few = omega arith;
    added = subst (λ n. Added f f (rules_below bytes n)) (sym none) (added_none f);
    left = same ∙ ap (λ n. drop (5 * n) (take (5 * count) bytes)) (sym none);
  }

  module _ (g : Filling Rule) (rest : List ℕ) (now : FilledUpTo bytes count f g rest) where
    rest_length : length rest ≡ 5 * count - 5 * g.filled
    rest_length =
        let t = length-take-le (5 * count) bytes within in
        let d = length-drop (5 * g.filled) (take (5 * count) bytes) in
        let l = ap length now.left in
        omega arith

    pub filled_all : length rest < 5 → g.places.now ≡ rules_below bytes count ++ drop count f.places.now
    filled_all short =
        let l = rest_length in
        let few = now.few in
        let is : g.filled ≡ count = omega arith in
        added_first f.places.now refl none (subst (λ n. Added f g (rules_below bytes n)) is now.added) ∙
        ap (λ k. rules_below bytes count ++ drop k f.places.now) (length-map-range_with_len (λ k. rule_at bytes (5 * k)) 0 count)

    module _ (chunk rest' : List ℕ) (cut : rest ≡ chunk ++ rest') (five : length chunk ≡ 5) where
      pub one_left : g.filled < count
      one_left =
          let l = rest_length in
          let a = length-append chunk rest' in
          let e = ap length cut in
          omega arith

      same : (i : ℕ) → i < 5 → get_or chunk i 0 ≡ get_or bytes (5 * g.filled + i) 0
      same i lt =
          let one = one_left in
          sym (get_or_append_left chunk rest' 0 i (omega arith)) ∙ ap (λ xs. get_or xs i 0) (sym cut ∙ now.left) ∙
          get_or-drop (5 * g.filled) (take (5 * count) bytes) i 0 ∙ get_or-take (5 * count) bytes (5 * g.filled + i) 0 (omega arith)

      read : rule_at chunk 0 ≡ rule_at bytes (5 * g.filled)
      read = rule_same (rule_at chunk 0) (rule_at bytes (5 * g.filled)) (same 1 (omega arith)) (same 2 (omega arith)) (same 3 (omega arith)) (ap (λ k. eqb k 1) (same 4 (omega arith)))

      pub filled_next : (h : Filling Rule) (r : Rule) → r ≡ rule_at chunk 0 → Added g h (r ∷ []) → FilledUpTo bytes count f h rest'
      filled_next h r is here =
          let next : g.filled + 1 ≡ h.filled = let e = here.wrote.ends in omega arith in
          let rule_below : ℕ → Rule = λ k. rule_at bytes (5 * k) in
          record {
            few = let one = one_left in omega arith;
            added = subst (λ n. Added f h (rules_below bytes n)) next
                (subst (λ xs. Added f h xs) (ap (λ y. rules_below bytes g.filled ++ (y ∷ [])) (is ∙ read) ∙ sym (map-range_with_len_more rule_below 0 g.filled g.filled (omega arith)))
                (added_more now.added here));
            left = sym (drop_at chunk rest' 5 five) ∙ ap (drop 5) (sym cut ∙ now.left) ∙ drop-drop 5 (5 * g.filled) (take (5 * count) bytes) ∙
                ap (λ k. drop k (take (5 * count) bytes)) (let more : 5 * g.filled + 5 ≡ 5 * h.filled = omega arith in more);
          }
