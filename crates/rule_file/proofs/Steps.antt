-- Reading a rule file, one record at a time. Assumes nothing.
use Rattle.std.proofs.Common.{◌≡◌, ℕ, pred, ◌+◌, ◌<◌, ◌≤◌, true, false, cond, eqb, ltb, ◌⊎◌, List, [], ◌∷◌, ◌++◌, length, get_or, Some, Ok, Err, Result, refl, ap, ◌∙◌, arith}
use Rattle.std.proofs.lemmas.Bool.{cond-true, cond-false, eq-eqb, ne_eqb, lt-ltb, le-ltb}
use Rattle.std.proofs.lemmas.Bool.Decides.{nat_tests}
use Rattle.records.specs.Reading.{Record, body_length, record_at}
use Rattle.records.specs.Running.{Next, over, onward, by_record}
use Rattle.records.specs.declared.BytesFault.{BytesFault}
use Rattle.records.specs.declared.BytesFault.TheVariants.{Unfinished, AfterEnd}
use Rattle.records.proofs.Finding.{found, none_there}
use Rattle.records.proofs.Running.{over_here, onward_here}
use Rattle.rules.specs.declared.Rule.{Rule}
use Rattle.rule_file.specs.Encoding.{rule_code, end_code, rule_kinds}
use Rattle.rule_file.specs.Order.{last_rule}
use Rattle.rule_file.specs.Reading.{Reads, rule_at, stands_next, one_more, read_record, read_records}
use Rattle.rule_file.specs.declared.fault.RuleFileFault.TheVariants.{Bytes, Misplaced, ListFull}

-- the two kinds and the lengths of their bodies
pub kinds_only : (code k : ℕ) → body_length rule_kinds code ≡ Some k → ((code ≡ end_code) × (k ≡ 0)) ⊎ ((code ≡ rule_code) × (k ≡ 4))
kinds_only code k e = grind (arith, nat_tests)

-- a record that is not the end has a rule's kind and length
pub other_found : (bytes : List ℕ) (at : ℕ) (r : Record) → record_at bytes rule_kinds at ≡ Ok r → (r.code ≡ end_code → ⊥) → (r.code ≡ rule_code) × (r.end ≡ at + 5) × (r.end ≤ length bytes)
other_found bytes at r is other =
    let w = found bytes rule_kinds at r is in
    let e = w.end in
    let i = w.within in
    let k = kinds_only r.code w.body w.known in
    grind arith

-- the end record is a single byte
pub end_found : (bytes : List ℕ) (at : ℕ) (r : Record) → record_at bytes rule_kinds at ≡ Ok r → r.code ≡ end_code → (r.end ≡ at + 1) × (r.end ≤ length bytes) × (get_or bytes at 0 ≡ end_code)
end_found bytes at r is end =
    let w = found bytes rule_kinds at r is in
    let e = w.end in
    let i = w.within in
    let first = w.code in
    let k = kinds_only r.code w.body w.known in
    grind arith

module _ (b n room : ℕ) (bytes : List ℕ) where
  abbrev step : List Rule → ℕ → Next (List Rule) Reads
  step = read_record b n room bytes

  abbrev cut : List Rule → ℕ → Reads
  cut rs at = Err (Bytes (Unfinished at))

  -- what a record comes to, once it is known
  abbrev by : List Rule → ℕ → Result Record BytesFault → Next (List Rule) Reads
  by rs at = by_record (λ f. Err (Bytes f)) (Ok rs) (λ r. one_more b n room bytes rs at r.end) bytes end_code

  pub past : (rs : List Rule) (at : ℕ) → length bytes ≤ at → step rs at ≡ over (cut rs at)
  past rs at beyond = ap (by rs at) (none_there bytes rule_kinds at beyond)

  module _ (f : ℕ) (rs : List Rule) (at : ℕ) (enough : length bytes ≤ at + f) where
    pub at_fault : (e : BytesFault) → record_at bytes rule_kinds at ≡ Err e → read_records b n room bytes f rs at ≡ Err (Bytes e)
    at_fault e is = over_here step cut (length bytes) past f rs at (Err (Bytes e)) enough (ap (by rs at) is)

    module _ (r : Record) (is : record_at bytes rule_kinds at ≡ Ok r) where
      ends : r.code ≡ end_code → step rs at ≡ cond (ltb r.end (length bytes)) (over (Err (Bytes (AfterEnd r.end)))) (over (Ok rs))
      ends end = ap (by rs at) is ∙ cond-true (eqb r.code end_code) _ (one_more b n room bytes rs at r.end) (eq-eqb r.code end_code end)

      pub at_more_bytes : r.code ≡ end_code → r.end < length bytes → read_records b n room bytes f rs at ≡ Err (Bytes (AfterEnd r.end))
      at_more_bytes end lt = over_here step cut (length bytes) past f rs at (Err (Bytes (AfterEnd r.end))) enough (ends end ∙ cond-true (ltb r.end (length bytes)) _ _ (lt-ltb r.end (length bytes) lt))

      pub at_end : r.code ≡ end_code → length bytes ≤ r.end → read_records b n room bytes f rs at ≡ Ok rs
      at_end end le = over_here step cut (length bytes) past f rs at (Ok rs) enough (ends end ∙ cond-false (ltb r.end (length bytes)) _ _ (le-ltb r.end (length bytes) le))

      goes : (r.code ≡ end_code → ⊥) → step rs at ≡ one_more b n room bytes rs at r.end
      goes other = ap (by rs at) is ∙ cond-false (eqb r.code end_code) _ (one_more b n room bytes rs at r.end) (ne_eqb r.code end_code other)

      pub at_misplaced : (r.code ≡ end_code → ⊥) → stands_next b n (last_rule rs) bytes at ≡ false → read_records b n room bytes f rs at ≡ Err (Misplaced at)
      at_misplaced other no_place = over_here step cut (length bytes) past f rs at (Err (Misplaced at)) enough (goes other ∙ cond-false (stands_next b n (last_rule rs) bytes at) _ _ no_place)

      module _ (other : r.code ≡ end_code → ⊥) (stands : stands_next b n (last_rule rs) bytes at ≡ true) where
        placed : step rs at ≡ cond (ltb (length rs) room) (onward (rs ++ (rule_at bytes at ∷ [])) r.end) (over (Err (ListFull at)))
        placed = goes other ∙ cond-true (stands_next b n (last_rule rs) bytes at) _ _ stands

        pub at_full : room ≤ length rs → read_records b n room bytes f rs at ≡ Err (ListFull at)
        at_full full = over_here step cut (length bytes) past f rs at (Err (ListFull at)) enough (placed ∙ cond-false (ltb (length rs) room) _ _ (le-ltb (length rs) room full))

        pub at_rule : length rs < room → read_records b n room bytes f rs at ≡ read_records b n room bytes (pred f) (rs ++ (rule_at bytes at ∷ [])) r.end
        at_rule fits = onward_here step cut (length bytes) past f rs at (rs ++ (rule_at bytes at ∷ [])) r.end enough (placed ∙ cond-true (ltb (length rs) room) _ _ (lt-ltb (length rs) room fits))

-- the last of a list with one rule more
pub last_push : (rs : List Rule) (r : Rule) → last_rule (rs ++ (r ∷ [])) ≡ Some r
last_push [] r = refl
last_push (q ∷ []) r = refl
last_push (q ∷ (p ∷ ps)) r = last_push (p ∷ ps) r
