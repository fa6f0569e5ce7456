-- The kind in a list, as it is searched for. Assumes nothing.
use Rattle.std.proofs.Common.{◌≡◌, ℕ, Bool, true, false, cond, eqb, List, [], ◌∷◌, Some, None, Option, Bor, MatchOption, refl, sym, ap, ◌∙◌, option_map}
use Rattle.std.specs.List.{find}
use Rattle.records.specs.Reading.{body_length}
use Rattle.records.specs.declared.among.Kind.{Kind}

-- the length is that of the first kind with the code
pub body_found : (ks : List Kind) (code : ℕ) → option_map (λ (k : Kind). k.body) (find (λ (k : Kind). eqb k.code code) ks) ≡ body_length ks code
body_found [] code = refl
body_found (k ∷ ks) code = by (body_found ks code) (eqb k.code code)
  where
    by : option_map (λ (x : Kind). x.body) (find (λ (x : Kind). eqb x.code code) ks) ≡ body_length ks code → (t : Bool) → option_map (λ (x : Kind). x.body) (cond t (Some k) (find (λ (x : Kind). eqb x.code code) ks)) ≡ cond t (Some k.body) (body_length ks code)
    by later true = refl
    by later false = later

-- what is found among lent kinds tells the length
pub length_found : (ks : List Kind) (code : ℕ) (r : Option (Bor Kind)) → option_map (λ (k : Bor Kind). k.now) r ≡ find (λ (k : Kind). eqb k.code code) ks → MatchOption r (body_length ks code ≡ None) (λ k. body_length ks code ≡ Some k.now.body)
length_found ks code None e = sym (ap (option_map (λ (k : Kind). k.body)) e ∙ body_found ks code)
length_found ks code (Some k) e = sym (ap (option_map (λ (x : Kind). x.body)) e ∙ body_found ks code)
