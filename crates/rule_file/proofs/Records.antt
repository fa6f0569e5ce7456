-- The record of a rule, as bytes and back. Assumes nothing.
use Rattle.std.proofs.Common.{◌≡◌, ℕ, ◌+◌, ◌*◌, ◌≤◌, Bool, true, false, cond, eqb, leb, List, [], ◌∷◌, ◌++◌, length, get_or, drop, sym, refl, ap, ◌∙◌, arith}
use Rattle.std.proofs.lemmas.List.{append-nil, length-append}
use Rattle.std.proofs.lemmas.Bool.Decides.{nat_tests}
use Rattle.records.proofs.Finding.{one_byte}
use Rattle.rules.specs.declared.Rule.{Rule}
use Rattle.rule_file.specs.Encoding.{rule_code, end_code, rule_bytes, records_bytes, rules_bytes}
use Rattle.rule_file.specs.Reading.{rule_at}

-- a value byte and back
pub value_byte : (v : Bool) → eqb (cond v 1 0) 1 ≡ v
value_byte true = refl
value_byte false = refl

pub value_small : (v : Bool) → leb (cond v 1 0) 1 ≡ true
value_small true = refl
value_small false = refl

pub byte_value : (k : ℕ) → k ≤ 1 → cond (eqb k 1) 1 0 ≡ k
byte_value k small = grind (arith, nat_tests)

value_same : (v w : Bool) → ◌≡◌ {A = ℕ} (cond v 1 0) (cond w 1 0) → v ≡ w
value_same v w e = grind arith

pub rule_same : (r q : Rule) → r.state ≡ q.state → r.line ≡ q.line → r.prefix ≡ q.prefix → r.value ≡ q.value → r ≡ q
rule_same r q s j p v = grind arith

-- five bytes of what is left
pub five_bytes : (bytes : List ℕ) (at : ℕ) → at + 5 ≤ length bytes → drop at bytes ≡ get_or bytes at 0 ∷ (get_or bytes (at + 1) 0 ∷ (get_or bytes (at + 2) 0 ∷ (get_or bytes (at + 3) 0 ∷ (get_or bytes (at + 4) 0 ∷ drop (at + 5) bytes))))
five_bytes bytes at within =
    one_byte bytes at (at + 1) (omega arith) refl ∙ ap (λ t. get_or bytes at 0 ∷ t)
    (one_byte bytes (at + 1) (at + 2) (omega arith) (omega arith) ∙ ap (λ t. get_or bytes (at + 1) 0 ∷ t)
    (one_byte bytes (at + 2) (at + 3) (omega arith) (omega arith) ∙ ap (λ t. get_or bytes (at + 2) 0 ∷ t)
    (one_byte bytes (at + 3) (at + 4) (omega arith) (omega arith) ∙ ap (λ t. get_or bytes (at + 3) 0 ∷ t)
    (one_byte bytes (at + 4) (at + 5) (omega arith) (omega arith)))))

-- a rule whose record is these five bytes is the one that is read from them
pub rule_of_bytes : (bytes : List ℕ) (at : ℕ) (r : Rule) → rule_bytes r ≡ rule_code ∷ (get_or bytes (at + 1) 0 ∷ (get_or bytes (at + 2) 0 ∷ (get_or bytes (at + 3) 0 ∷ (get_or bytes (at + 4) 0 ∷ [])))) → (rule_at bytes at ≡ r) × (leb (get_or bytes (at + 4) 0) 1 ≡ true)
rule_of_bytes bytes at r e =
    let s : r.state ≡ get_or bytes (at + 1) 0 = cc in
    let j : r.line ≡ get_or bytes (at + 2) 0 = cc in
    let p : r.prefix ≡ get_or bytes (at + 3) 0 = cc in
    let v : cond r.value 1 0 ≡ get_or bytes (at + 4) 0 = cc in (
      rule_same (rule_at bytes at) r (sym s) (sym j) (sym p) (ap (λ k. eqb k 1) (sym v) ∙ value_byte r.value),
      ap (λ k. leb k 1) (sym v) ∙ value_small r.value,
    )

-- the record that stands at an offset is that of the rule read from it
pub bytes_of_rule : (bytes : List ℕ) (at : ℕ) → at + 5 ≤ length bytes → get_or bytes at 0 ≡ rule_code → get_or bytes (at + 4) 0 ≤ 1 → drop at bytes ≡ rule_bytes (rule_at bytes at) ++ drop (at + 5) bytes
bytes_of_rule bytes at within code small =
    five_bytes bytes at within ∙
    ap (λ k. k ∷ (get_or bytes (at + 1) 0 ∷ (get_or bytes (at + 2) 0 ∷ (get_or bytes (at + 3) 0 ∷ (get_or bytes (at + 4) 0 ∷ drop (at + 5) bytes))))) code ∙
    ap (λ k. rule_code ∷ (get_or bytes (at + 1) 0 ∷ (get_or bytes (at + 2) 0 ∷ (get_or bytes (at + 3) 0 ∷ (k ∷ drop (at + 5) bytes))))) (sym (byte_value (get_or bytes (at + 4) 0) small))

-- records that begin a rule file are those of its first rules
pub front_rules : (xs ys : List Rule) (rest : List ℕ) → records_bytes xs ++ rest ≡ rules_bytes ys → (more : List Rule) × (ys ≡ xs ++ more) × (rest ≡ rules_bytes more)
front_rules [] ys rest e = (ys, refl, e)
front_rules (x ∷ xs) [] rest e = absurd (let z : ◌≡◌ {A = ℕ} 33 47 = cc in omega arith)
front_rules (x ∷ xs) (y ∷ ys) rest e =
    let s : x.state ≡ y.state = cc in
    let j : x.line ≡ y.line = cc in
    let p : x.prefix ≡ y.prefix = cc in
    let v : ◌≡◌ {A = ℕ} (cond x.value 1 0) (cond y.value 1 0) = cc in
    let t : records_bytes xs ++ rest ≡ rules_bytes ys = cc in
    let w = front_rules xs ys rest t in (
      w.0,
      ap (λ q. q ∷ ys) (sym (rule_same x y s j p (value_same x.value y.value v))) ∙ ap (λ qs. x ∷ qs) w.1,
      w.2,
    )

-- the end record alone is the file of no rules
pub no_more : (more : List Rule) → ◌≡◌ {A = List ℕ} (end_code ∷ []) (rules_bytes more) → more ≡ []
no_more [] e = refl
no_more (r ∷ rs) e = absurd (let z : ◌≡◌ {A = ℕ} 33 47 = cc in omega arith)

-- two lists with the same file are the same
pub same_rules : (xs ys : List Rule) → rules_bytes xs ≡ rules_bytes ys → xs ≡ ys
same_rules xs ys e =
    let front = front_rules xs ys (end_code ∷ []) e in
    sym (front.1 ∙ ap (λ qs. xs ++ qs) (no_more front.0 front.2) ∙ append-nil xs)

pub records_length : (rs : List Rule) → length (records_bytes rs) ≡ 5 * length rs
records_length [] = refl
records_length (r ∷ rs) = let h = records_length rs in omega arith

pub file_length : (rs : List Rule) → length (rules_bytes rs) ≡ 5 * length rs + 1
file_length rs = let l = length-append (records_bytes rs) (end_code ∷ []) in let e = records_length rs in omega arith
