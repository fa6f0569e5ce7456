-- Every file of rules in order that have places is read. Assumes nothing.
use Rattle.std.proofs.Common.{◌≡◌, ℕ, suc, ◌+◌, ◌*◌, ◌<◌, ◌≤◌, cond, eqb, List, [], ◌∷◌, ◌++◌, map, length, get_or, drop, Ok, Err, Result, sym, refl, ap, ◌∙◌, subst, arith}
use Rattle.std.specs.List.{range_with_len}
use Rattle.std.proofs.lemmas.List.FromFn.{fill_by_all}
use Rattle.std.proofs.lemmas.List.{append_assoc, length-append, get_or-append-add}
use Rattle.records.specs.Damage.{Damaged}
use Rattle.records.specs.declared.BytesFault.{BytesFault}
use Rattle.records.specs.declared.BytesFault.TheVariants.{Unfinished, UnknownKind, AfterEnd}
use Rattle.rules.specs.declared.Rule.{Rule}
use Rattle.rule_file.specs.Encoding.{rule_code, end_code, rule_kinds, rule_bytes, records_bytes, rules_bytes}
use Rattle.rule_file.specs.Order.{InOrder}
use Rattle.plant.specs.Sizes.{Limits}
use Rattle.rule_file.specs.Outcome.{ReadInWords}
use Rattle.rule_file.specs.Reading.{rule_at}
use Rattle.rule_file.specs.declared.fault.RuleFileFault.{RuleFileFault}
use Rattle.rule_file.specs.declared.fault.RuleFileFault.TheVariants.{Bytes, SizeLimits, Misplaced, ListFull, FileRoom}
use Rattle.rule_file.proofs.Ordering.{front_in_order}
use Rattle.rule_file.proofs.Records.{front_rules, same_rules, rule_same, value_byte}

-- a rule file is damaged nowhere
undamaged : (more : List Rule) (o : ℕ) (f : BytesFault) → Damaged rule_kinds end_code (rules_bytes more) o f → ⊥
undamaged [] o (Unfinished p) damage = grind arith
undamaged [] o (UnknownKind p) damage = grind arith
undamaged [] o (AfterEnd p) damage = grind arith
undamaged (r ∷ rs) o (Unfinished p) damage = grind arith
undamaged (r ∷ rs) o (UnknownKind p) damage = grind arith
undamaged (r ∷ rs) o (AfterEnd p) damage = grind arith

module _ (b n : ℕ) (bytes : List ℕ) (list list' : List Rule) (rules : List Rule) (sizes : Limits b n) (ok : InOrder b n rules) (room : length rules ≤ length list) (is : bytes ≡ rules_bytes rules) where
  -- the first of a rule that no rule may follow, or that has no place
  no_rule : (rs more : List Rule) → rules ≡ rs ++ more → (s j p v : ℕ) (rest : List ℕ) → rules_bytes more ≡ rule_code ∷ (s ∷ (j ∷ (p ∷ (v ∷ rest)))) → ((r : Rule) → rule_bytes r ≡ rule_code ∷ (s ∷ (j ∷ (p ∷ (v ∷ [])))) → InOrder b n (rs ++ (r ∷ [])) → ⊥) → ⊥
  no_rule rs [] e s j p v rest same none = let z : ◌≡◌ {A = ℕ} 33 47 = cc in omega arith
  no_rule rs (m ∷ ms) e s j p v rest same none =
      let a : m.state ≡ s = cc in
      let c : m.line ≡ j = cc in
      let d : m.prefix ≡ p = cc in
      let f : cond m.value 1 0 ≡ v = cc in
      none m (cc (a, c, d, f)) (front_in_order b n (rs ++ (m ∷ [])) ms (subst (λ qs. InOrder b n qs) (e ∙ sym (append_assoc rs (m ∷ []) ms)) ok))

  too_many : (rs more : List Rule) → rules ≡ rs ++ more → length rs ≡ length list → (r : Rule) (rest : List ℕ) → rules_bytes more ≡ rule_bytes r ++ rest → ⊥
  too_many rs [] e full r rest same = let z : ◌≡◌ {A = ℕ} 33 47 = cc in omega arith
  too_many rs (m ∷ ms) e full r rest same = let l = ap length e ∙ length-append rs (m ∷ ms) in omega arith

  pub accepted : (r : Result ℕ RuleFileFault) → ReadInWords b n bytes list list' r → (r ≡ Ok (length rules)) × (list' ≡ rules ++ drop (length rules) list)
  accepted (Ok k) w =
      let same : rules ≡ w.rules = same_rules rules w.rules (sym is ∙ w.written) in
      let size : k ≡ length rules = w.number ∙ ap length (sym same) in
      (ap Ok size, w.places ∙ ap (λ qs. qs ++ drop k list) (sym same) ∙ ap (λ i. rules ++ drop i list) size)
  accepted (Err SizeLimits) w = absurd (w.0 sizes)
  accepted (Err (Bytes f)) w =
      let front = front_rules w.rules rules w.rest (sym w.begins ∙ is) in
      absurd (undamaged front.0 (length (records_bytes w.rules)) f (subst (λ rest. Damaged rule_kinds end_code rest (length (records_bytes w.rules)) f) front.2 w.there))
  accepted (Err (Misplaced o)) w =
      let front = front_rules w.rules rules w.rest (sym w.begins ∙ is) in
      let t = w.there.1 in
      absurd (no_rule w.rules front.0 front.1 t.0 t.1 t.2 t.3 t.4 (sym front.2 ∙ t.5) t.6)
  accepted (Err (ListFull o)) w =
      let front = front_rules w.rules rules w.rest (sym w.begins ∙ is) in
      let t = w.there.1 in
      absurd (too_many w.rules front.0 front.1 t.4 t.0 t.1 (sym front.2 ∙ t.2))
  accepted (Err (FileRoom k)) w = absurd w

-- the rules are read back from their records, one by one
rule_back : (rs : List Rule) (rest : List ℕ) (i : ℕ) (d : Rule) → i < length rs → get_or rs i d ≡ rule_at (records_bytes rs ++ rest) (5 * i)
rule_back [] rest i d lt = absurd (omega arith)
rule_back (r ∷ rs) rest Prim.Native.Nat.zero d lt = rule_same r _ refl refl refl (sym (value_byte r.value))
rule_back (r ∷ rs) rest (suc i) d lt =
    let later = rule_back rs rest i d (omega arith) in
    let at : (k : ℕ) → get_or (records_bytes (r ∷ rs) ++ rest) (5 * suc i + k) 0 ≡ get_or (records_bytes rs ++ rest) (5 * i + k) 0 =
    λ k. ap (λ j. get_or (records_bytes (r ∷ rs) ++ rest) j 0) (let e : 5 * suc i + k ≡ length (rule_bytes r) + (5 * i + k) = omega arith in e) ∙ get_or-append-add (rule_bytes r) (records_bytes rs ++ rest) (5 * i + k) 0 in
    later ∙ rule_same (rule_at (records_bytes rs ++ rest) (5 * i)) (rule_at (records_bytes (r ∷ rs) ++ rest) (5 * suc i)) (sym (at 1)) (sym (at 2)) (sym (at 3)) (ap (λ k. eqb k 1) (sym (at 4)))

pub rules_back : (rs : List Rule) (rest : List ℕ) → map (λ i. rule_at (records_bytes rs ++ rest) (5 * i)) (range_with_len 0 (length rs)) ≡ rs
rules_back rs rest = sym (fill_by_all (λ i. rule_at (records_bytes rs ++ rest) (5 * i)) rs (length rs) nothing refl (λ k lt. rule_back rs rest k nothing lt))
  where
    nothing : Rule
    nothing = record { state = 0; line = 0; prefix = 0; value = mathlib.Core.Bool.false }
