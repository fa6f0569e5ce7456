-- What reading a rule file comes to, in words. Assumes nothing.
use Rattle.std.proofs.Common.{◌≡◌, ℕ, ◌+◌, ◌<◌, ◌≤◌, Bool, true, false, cond, ◌&&◌, eqb, ltb, leb, List, [], ◌∷◌, ◌++◌, length, get_or, take, drop, Ok, Err, Result, sym, refl, ap, ◌∙◌, subst, arith}
use Rattle.std.proofs.lemmas.List.{append_assoc, drop_all, flat_map_more, length-append, length_push, length-take-le, take-append-drop, take_at}
use Rattle.std.proofs.lemmas.Bool.{and_parts, and_from, both_ways, eqb-true, eqb-false, leb-true, ltb-true, ltb-false}
use Rattle.records.specs.Damage.{Damaged}
use Rattle.records.specs.Reading.{Record, record_at}
use Rattle.records.specs.Running.{Next, over, onward, by_record}
use Rattle.records.specs.declared.BytesFault.{BytesFault}
use Rattle.records.specs.declared.BytesFault.TheVariants.{Unfinished, AfterEnd}
use Rattle.records.proofs.Finding.{found, damaged, one_byte}
use Rattle.records.proofs.Running.{run_keeps}
use Rattle.rules.specs.Fitting.{in_range}
use Rattle.rules.specs.declared.Rule.{Rule}
use Rattle.rule_file.specs.Encoding.{rule_code, end_code, rule_kinds, rule_bytes, records_bytes}
use Rattle.rule_file.specs.Order.{InOrder, last_rule, comes_after}
use Rattle.plant.specs.Sizes.{Limits}
use Rattle.rule_file.specs.Outcome.{Stopped, NoRule, OneTooMany, ReadInWords}
use Rattle.rule_file.specs.Reading.{Reads, rule_at, stands_next, one_more, read_record, read_records, counted, filled}
use Rattle.rule_file.specs.declared.fault.RuleFileFault.TheVariants.{Bytes, Misplaced, ListFull}
use Rattle.rule_file.proofs.Ordering.{none_in_order, push_in_order, push_range, push_after}
use Rattle.rule_file.proofs.Records.{five_bytes, rule_of_bytes, bytes_of_rule}
use Rattle.rule_file.proofs.Steps.{past, other_found, end_found}

-- the bytes below the offset are the records of these rules, which are in order and have places
pub record UpTo (b n room : ℕ) (bytes : List ℕ) (rs : List Rule) (at : ℕ) : Type 0 where
  pub begins : take at bytes ≡ records_bytes rs
  pub inside : at ≤ length bytes
  pub in_order : InOrder b n rs
  pub few : length rs ≤ room

module _ (b n : ℕ) (sizes : Limits b n) (bytes : List ℕ) (list : List Rule) where
  -- what the whole comes to
  abbrev Comes : Reads → Type 0
  Comes r = ReadInWords b n bytes list (filled r list) (counted r)

  module _ (rs : List Rule) (at : ℕ) (up : UpTo b n (length list) bytes rs at) where
    -- what one record comes to
    abbrev View : Next (List Rule) Reads → Type 0
    View (over r) = Comes r
    View (onward t end) = UpTo b n (length list) bytes t end × (at < end)

    offset : at ≡ length (records_bytes rs)
    offset = sym (length-take-le at bytes up.inside) ∙ ap length up.begins

    split : bytes ≡ records_bytes rs ++ drop at bytes
    split = sym (take-append-drop at bytes) ∙ ap (λ xs. xs ++ drop at bytes) up.begins

    stopped : (There : List Rule → List ℕ → ℕ → Type 0) → There rs (drop at bytes) at → Stopped b n bytes list list There
    stopped There t = record {
      sizes = sizes;
      rules = rs;
      in_order = up.in_order;
      room = up.few;
      rest = drop at bytes;
      begins = split;
      there = subst (λ o. There rs (drop at bytes) o) offset t;
      same = refl;
    }

    -- the end record: nothing stands after it, or something does
    at_last : (r : Record) → record_at bytes rule_kinds at ≡ Ok r → r.code ≡ end_code → (t : Bool) → ltb r.end (length bytes) ≡ t → View (cond t (over (Err (Bytes (AfterEnd r.end)))) (over (Ok rs)))
    at_last r is end true more =
        let w = end_found bytes at r is end in
        let e = w.0 in
        let l = ltb-true r.end (length bytes) more in
        stopped (λ rules rest o. Damaged rule_kinds end_code rest o (AfterEnd r.end))
        (e, (get_or bytes (at + 1) 0, drop (at + 2) bytes, one_byte bytes at (at + 1) (omega arith) refl ∙ ap (λ k. k ∷ drop (at + 1) bytes) w.2 ∙ ap (λ t. end_code ∷ t) (one_byte bytes (at + 1) (at + 2) (omega arith) (omega arith))))
    at_last r is end false none =
        let w = end_found bytes at r is end in
        let e = w.0 in
        let i = w.1 in
        let l = ltb-false r.end (length bytes) none in
        record {
          sizes = sizes;
          rules = rs;
          in_order = up.in_order;
          written = split ∙ ap (λ t. records_bytes rs ++ t) (one_byte bytes at (at + 1) (omega arith) refl ∙ ap (λ k. k ∷ drop (at + 1) bytes) w.2 ∙ ap (λ t. end_code ∷ t) (drop_all (at + 1) bytes (omega arith)));
          room = up.few;
          number = refl;
          places = refl;
        }

    -- a rule's record: it may not stand there, there is no place for it, or it is one more
    module _ (r : Record) (is : record_at bytes rule_kinds at ≡ Ok r) (other : r.code ≡ end_code → ⊥) where
      abbrev rule : Rule
      rule = rule_at bytes at

      within : at + 5 ≤ length bytes
      within = let w = other_found bytes at r is other in let e = w.1 in let i = w.2 in omega arith

      code : get_or bytes at 0 ≡ rule_code
      code = sym (found bytes rule_kinds at r is).code ∙ (other_found bytes at r is other).0

      at_misfit : stands_next b n (last_rule rs) bytes at ≡ false → Comes (Err (Misplaced at))
      at_misfit no_place =
          stopped (λ rules rest o. (at ≡ o) × NoRule b n rules rest) (
            refl,
            (
              get_or bytes (at + 1) 0,
              get_or bytes (at + 2) 0,
              get_or bytes (at + 3) 0,
              get_or bytes (at + 4) 0,
              drop (at + 5) bytes,
              five_bytes bytes at within ∙ ap (λ k. k ∷ (get_or bytes (at + 1) 0 ∷ (get_or bytes (at + 2) 0 ∷ (get_or bytes (at + 3) 0 ∷ (get_or bytes (at + 4) 0 ∷ drop (at + 5) bytes))))) code,
              λ q same ok.
                  let w = rule_of_bytes bytes at q same in
                  both_ways (stands_next b n (last_rule rs) bytes at) no_place
                  (and_from _ _ w.1 (and_from _ _ (ap (in_range b n) w.0 ∙ push_range b n rs q ok) (ap (comes_after (last_rule rs)) w.0 ∙ push_after b n rs q ok))),
            ),
          )

      module _ (stands : stands_next b n (last_rule rs) bytes at ≡ true) where
        rest_is : drop at bytes ≡ rule_bytes rule ++ drop (at + 5) bytes
        rest_is = bytes_of_rule bytes at within code (leb-true (get_or bytes (at + 4) 0) 1 (and_parts (leb (get_or bytes (at + 4) 0) 1) _ stands).0)

        in_order_more : InOrder b n (rs ++ (rule ∷ []))
        in_order_more =
            let p = and_parts (leb (get_or bytes (at + 4) 0) 1) (in_range b n rule && comes_after (last_rule rs) rule) stands in
            let q = and_parts (in_range b n rule) (comes_after (last_rule rs) rule) p.1 in
            push_in_order b n rs rule up.in_order q.0 q.1

        at_room : (t : Bool) → ltb (length rs) (length list) ≡ t → View (cond t (onward (rs ++ (rule ∷ [])) r.end) (over (Err (ListFull at))))
        at_room true lt =
            let e = (other_found bytes at r is other).1 in
            let l = length-take-le at bytes up.inside in
            let size = length-append (take at bytes) (rule_bytes rule) in
            let room = ltb-true (length rs) (length list) lt in
            let longer = length_push rs rule in
            let front : take r.end bytes ≡ take at bytes ++ rule_bytes rule =
            ap (take r.end) (sym (take-append-drop at bytes) ∙ ap (λ t. take at bytes ++ t) rest_is ∙ sym (append_assoc (take at bytes) (rule_bytes rule) (drop (at + 5) bytes))) ∙
            take_at (take at bytes ++ rule_bytes rule) (drop (at + 5) bytes) r.end (omega arith) in (
              record {
                begins = front ∙ ap (λ xs. xs ++ rule_bytes rule) up.begins ∙ flat_map_more rule_bytes [] rs rule;
                inside = (other_found bytes at r is other).2;
                in_order = in_order_more;
                few = omega arith;
              },
              omega arith,
            )
        at_room false full =
            let room = ltb-false (length rs) (length list) full in
            let few = up.few in
            stopped (λ rules rest o. (at ≡ o) × OneTooMany b n (length list) rules rest)
            (refl, (rule, drop (at + 5) bytes, rest_is, in_order_more, omega arith))

      at_rule : (t : Bool) → stands_next b n (last_rule rs) bytes at ≡ t → View (cond t (cond (ltb (length rs) (length list)) (onward (rs ++ (rule ∷ [])) r.end) (over (Err (ListFull at)))) (over (Err (Misplaced at))))
      at_rule true stands = at_room stands (ltb (length rs) (length list)) refl
      at_rule false no_place = at_misfit no_place

    at_record : (r : Record) → record_at bytes rule_kinds at ≡ Ok r → (t : Bool) → eqb r.code end_code ≡ t
        → View (cond t (cond (ltb r.end (length bytes)) (over (Err (Bytes (AfterEnd r.end)))) (over (Ok rs))) (one_more b n (length list) bytes rs at r.end))
    at_record r is true end = at_last r is (eqb-true r.code end_code end) (ltb r.end (length bytes)) refl
    at_record r is false other = at_rule r is (eqb-false r.code end_code other) (stands_next b n (last_rule rs) bytes at) refl

    at_found : (x : Result Record BytesFault) → record_at bytes rule_kinds at ≡ x → View (by_record (λ f. Err (Bytes f)) (Ok rs) (λ r. one_more b n (length list) bytes rs at r.end) bytes end_code x)
    at_found (Err f) is = stopped (λ rules rest o. Damaged rule_kinds end_code rest o f) (damaged bytes rule_kinds at end_code f is)
    at_found (Ok r) is = at_record r is (eqb r.code end_code) refl

    view : View (read_record b n (length list) bytes rs at)
    view = at_found (record_at bytes rule_kinds at) refl

  -- what reading all records comes to
  pub read_words : Comes (read_records b n (length list) bytes (length bytes) [] 0)
  read_words =
      run_keeps (read_record b n (length list) bytes) (λ rs at. Err (Bytes (Unfinished at))) (length bytes) (past b n (length list) bytes)
      (UpTo b n (length list) bytes) Comes
      (λ rs at r up is. subst (λ x. View rs at up x) is (view rs at up))
      (λ rs at t end up is. subst (λ x. View rs at up x) is (view rs at up))
      (length bytes) [] 0 (omega arith)
      (record { begins = refl; inside = omega arith; in_order = none_in_order b n; few = omega arith })
