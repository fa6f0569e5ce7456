-- A plan that is written down is read as it was meant, and bytes with a fault are refused with it. Assumes nothing.
use Rattle.std.proofs.Common.{◌≡◌, ℕ, suc, pred, ◌+◌, ◌<◌, ◌≤◌, Bool, true, false, cond, eqb, ltb, leb, List, [], ◌∷◌, ◌++◌, length, take, drop, Some, None, Ok, Err, Option, Result, sym, refl, ap, ◌∙◌, subst, inl, inr, arith}
use mathlib.Core.List.{Memᴰ}
use Rattle.std.specs.List.{flat_map}
use Rattle.std.proofs.lemmas.List.{append_assoc, append-nil, drop_at, drop-drop, length-append, length_push, take_at}
use Rattle.std.proofs.lemmas.Bool.{cond-true, cond-false, eqb-false, ne_eqb, le-ltb, lt-ltb, le-leb, lt-leb}
use Rattle.records.specs.Reading.{Record, record_at}
use Rattle.records.specs.declared.BytesFault.{BytesFault}
use Rattle.records.specs.declared.BytesFault.TheVariants.{Unfinished, UnknownKind}
use Rattle.records.proofs.Standing.{Standing, standing, read_so, byte_there}
use Rattle.records.proofs.Standing.Standing.{nothing, strange, short, whole}
use Rattle.plan.specs.Items.{byte, item_fits}
use Rattle.plan.specs.Judging.{plan_kinds, most_clauses, none_yet, judge, judge_clash, judge_end, judge_from, judge_head, judge_loop, judge_record, judge_whole}
use Rattle.plan.specs.Machine.{Parts}
use Rattle.plan.specs.Held.{parts_of}
use Rattle.plan.specs.Kept.{AsExpected, HasItem, Spared}
use Rattle.plan.specs.declared.plan.Plan.{Plan}
use Rattle.plan.specs.Refused.{Stores, Told, ClauseKind, NextAt, ReadTo, Refused, Whole}
use Rattle.plan.specs.Refused.Refused.{no_byte, cut_short, unknown, no_head, second_head, sizes, too_many, malformed, after_end, loop, clash}
use Rattle.plan.specs.Sizes.{sizes_fit}
use Rattle.plan.specs.Written.{Item, Written, Formed, InOrder, Limits, WellWritten, front, plan_bytes, item_bytes, parts_from}
use Rattle.plan.specs.declared.fault.PlanFault.{PlanFault}
use Rattle.plan.specs.declared.fault.PlanFault.TheVariants.{Bytes, HeadMisplaced, SizeLimits, TooManyClauses, Malformed, Loop, Clash, Memory}
use Rattle.plan.proofs.Firsts.{finds_loop, finds_none, one_first, first_in_the_way}
use Rattle.plan.proofs.Exact.{Outcome, head_is, judged_told, paper, Sofar, Noted, not_end, noted_with, seen, sofar_more, sofar_none, taken}
use Rattle.plan.proofs.Judge.{at_end, at_fault, at_more, at_refused}
use Rattle.records.proofs.Finding.{err_ok}
use Rattle.plan.proofs.Storing.{pleads_for}
use Rattle.plan.proofs.Sizing.{limits_from, sizes_from}
use Rattle.plan.proofs.Writing.{body_of, kind_body, known_kind, kind_of, item_from}

module _ (b n m : ℕ) (limits : Limits b n m) (bs : List ℕ) where
  -- reading comes to the rest, after these items
  record Reaches (items : List Item) (rest : List ℕ) (answer : Result Parts PlanFault) : Type 0 where
    note : Option ℕ
    at : ℕ
    fuel : ℕ
    sofar : Sofar b n m limits bs items note at
    left : drop at bs ≡ rest
    enough : length bs ≤ at + fuel
    same : answer ≡ judge_from fuel bs (seen b n m items note) at

  reach : (items before : List Item) (x : Option ℕ) (at f : ℕ) → Sofar b n m limits bs before x at → length bs ≤ at + f → (rest : List ℕ) → drop at bs ≡ flat_map item_bytes items ++ rest → ((i : Item) → Memᴰ i items → Formed b n m i) → length before + length items ≤ most_clauses → Reaches (before ++ items) rest (judge_from f bs (seen b n m before x) at)
  reach [] before x at f s enough rest is fine few =
      subst (λ items. Reaches items rest (judge_from f bs (seen b n m before x) at)) (sym (append-nil before))
      (record { note = x; at = at; fuel = f; sofar = s; left = is; enough = enough; same = refl })
  reach (i ∷ items) before x at f s enough rest is fine few =
      let here : drop at bs ≡ item_bytes i ++ (flat_map item_bytes items ++ rest) = is ∙ append_assoc (item_bytes i) (flat_map item_bytes items) rest in
      let good = fine i (Memᴰ.head refl) in
      let room : length before < most_clauses = omega arith in
      let whole_there : drop at bs ≡ kind_of i ∷ (body_of i ++ (flat_map item_bytes items ++ rest)) = here ∙ ap (λ xs. xs ++ (flat_map item_bytes items ++ rest)) (kind_body i) in
      let r : Record = record { offset = at; code = kind_of i; end = at + 1 + length (body_of i) } in
      let found : record_at bs plan_kinds at ≡ Ok r = read_so plan_kinds bs at (Ok r) (whole (kind_of i) (body_of i) (flat_map item_bytes items ++ rest) whole_there (known_kind i)) in
      let size = ap length (kind_body i) in
      let end : at + 1 + length (body_of i) ≡ at + length (item_bytes i) = omega arith in
      let y = noted_with b n m limits bs before i x at in
      let more = before ++ (i ∷ []) in
      let step : judge_from f bs (seen b n m before x) at ≡ judge_from (pred f) bs (seen b n m more y) (at + length (item_bytes i)) =
      at_more bs at f (seen b n m before x) enough r found (eqb-false (kind_of i) 15 (not_end i)) (seen b n m more y) (taken b n m limits bs before x at i good room _ here)
      ∙ ap (λ k. judge_from (pred f) bs (seen b n m more y) k) end in
      let next_sofar = sofar_more b n m limits bs before x at s i good room _ here in
      let left : drop (at + length (item_bytes i)) bs ≡ flat_map item_bytes items ++ rest = sym (drop-drop (length (item_bytes i)) at bs) ∙ ap (drop (length (item_bytes i))) here ∙ drop_at (item_bytes i) (flat_map item_bytes items ++ rest) (length (item_bytes i)) refl in
      let pushed = length_push before i in
      let later = reach items more y (at + length (item_bytes i)) (pred f) next_sofar (omega arith) rest left (λ j there. fine j (Memᴰ.tail there)) (omega arith) in
      subst (λ all. Reaches all rest (judge_from f bs (seen b n m before x) at)) (append_assoc before (i ∷ []) items)
      (record { note = later.note; at = later.at; fuel = later.fuel; sofar = later.sofar; left = later.left; enough = later.enough; same = step ∙ later.same })

-- a head with sizes within their limits is passed
module _ (bs : List ℕ) where
  head_there : (b n m : ℕ) (rest : List ℕ) → bs ≡ 1 ∷ (b ∷ (n ∷ (m ∷ rest))) → judge bs ≡ cond (sizes_fit b n m) (judge_from (length bs) bs (none_yet b n m) 4) (Err SizeLimits)
  head_there b n m rest is =
      let r : Record = record { offset = 0; code = 1; end = 4 } in
      let found : record_at bs plan_kinds 0 ≡ Ok r = read_so plan_kinds bs 0 (Ok r) (whole 1 (b ∷ (n ∷ (m ∷ []))) rest is refl) in
      ap (judge_head bs) found
      ∙ ap (λ x. cond (sizes_fit x (byte bs 2) (byte bs 3)) (judge_from (length bs) bs (none_yet x (byte bs 2) (byte bs 3)) 4) (Err SizeLimits)) (ap (λ xs. byte xs 1) is)
      ∙ ap (λ x. cond (sizes_fit b x (byte bs 3)) (judge_from (length bs) bs (none_yet b x (byte bs 3)) 4) (Err SizeLimits)) (ap (λ xs. byte xs 2) is)
      ∙ ap (λ x. cond (sizes_fit b n x) (judge_from (length bs) bs (none_yet b n x) 4) (Err SizeLimits)) (ap (λ xs. byte xs 3) is)

  from_front : (w : Written) (good : WellWritten w) (rest : List ℕ) → bs ≡ front w ++ rest → Reaches w.bits w.lines w.auxiliaries good.limits bs w.items rest (judge bs)
  from_front w good rest is =
      let b = w.bits in
      let n = w.lines in
      let m = w.auxiliaries in
      let start_here = sofar_none b n m good.limits bs (flat_map item_bytes w.items ++ rest) is in
      let few = good.few in
      let all = reach b n m good.limits bs w.items [] None 4 (length bs) start_here (omega arith) rest (ap (drop 4) is) good.formed (omega arith) in
      record {
        note = all.note;
        at = all.at;
        fuel = all.fuel;
        sofar = all.sofar;
        left = all.left;
        enough = all.enough;
        same = head_there b n m (flat_map item_bytes w.items ++ rest) is ∙ cond-true (sizes_fit b n m) _ _ (sizes_from b n m good.limits) ∙ all.same;
      }

  -- the offset where reading has come to is the one in the statement
  same_place : (w : Written) (good : WellWritten w) (rest : List ℕ) (answer : Result Parts PlanFault) (o : ℕ) → o ≡ length (front w) → (h : Reaches w.bits w.lines w.auxiliaries good.limits bs w.items rest answer) → h.at ≡ o
  same_place w good rest answer o place h = h.sofar.read_to.place ∙ sym place

  -- what is wrong with the bytes of the next record
  next_fault : (o : ℕ) (rest : List ℕ) → NextAt bs o rest → (e : BytesFault) → (drop o bs ≡ rest → Standing plan_kinds bs o (Err e)) → judge bs ≡ Err (Bytes e)
  next_fault o rest (inl first) e stands =
      let here : drop o bs ≡ rest = ap (λ k. drop k bs) first.0 ∙ first.1 in
      ap (judge_head bs) (subst (λ k. record_at bs plan_kinds k ≡ Err e) first.0 (read_so plan_kinds bs o (Err e) (stands here)))
  next_fault o rest (inr later) e stands =
      let w = later.0 in
      let good = later.1.well_written in
      let h = from_front w good rest later.1.bytes_are in
      let at_o = same_place w good rest (judge bs) o later.1.place h in
      let found = read_so plan_kinds bs o (Err e) (stands (ap (λ k. drop k bs) (sym at_o) ∙ h.left)) in
      h.same ∙ at_fault bs h.at h.fuel (seen w.bits w.lines w.auxiliaries w.items h.note) h.enough e (subst (λ k. record_at bs plan_kinds k ≡ Err e) (sym at_o) found)

  -- a whole record after the head and some items, that is refused
  record_refused : (w : Written) (o code : ℕ) (body rest : List ℕ) → ReadTo bs w o (code ∷ (body ++ rest)) → Whole code body → (code ≡ 15 → ⊥) → (e : PlanFault)
      → ((x : Option ℕ) → drop o bs ≡ code ∷ (body ++ rest) → judge_record bs (seen w.bits w.lines w.auxiliaries w.items x) o code ≡ Err e) → judge bs ≡ Err e
  record_refused w o code body rest read known other e refused =
      let good = read.well_written in
      let h = from_front w good (code ∷ (body ++ rest)) read.bytes_are in
      let at_o = same_place w good (code ∷ (body ++ rest)) (judge bs) o read.place h in
      let r : Record = record { offset = h.at; code = code; end = h.at + 1 + length body } in
      let found = read_so plan_kinds bs h.at (Ok r) (whole code body rest h.left known) in
      let s = seen w.bits w.lines w.auxiliaries w.items h.note in
      h.same ∙ at_refused bs h.at h.fuel s h.enough r found other e
      (subst (λ k. judge_record bs s k code ≡ Err e) (sym at_o) (refused h.note (ap (λ k. drop k bs) (sym at_o) ∙ h.left)))

  -- the end record after the head and the items
  end_record : (w : Written) (good : WellWritten w) (rest : List ℕ) → bs ≡ front w ++ (15 ∷ rest) → (x : Option ℕ) × Noted w.bits w.lines w.auxiliaries w.items x × (judge bs ≡ judge_end bs (seen w.bits w.lines w.auxiliaries w.items x) (length (plan_bytes w)))
  end_record w good rest is =
      let h = from_front w good (15 ∷ rest) is in
      let r : Record = record { offset = h.at; code = 15; end = h.at + 1 + 0 } in
      let found = read_so plan_kinds bs h.at (Ok r) (whole 15 [] rest h.left refl) in
      let s = seen w.bits w.lines w.auxiliaries w.items h.note in
      let place = h.sofar.read_to.place in
      let long = length_push (front w) 15 in
      let end : h.at + 1 + 0 ≡ length (plan_bytes w) = omega arith in
      (h.note, h.sofar.noted, h.same ∙ at_end bs h.at h.fuel s h.enough r found refl ∙ ap (judge_end bs s) end)

  whole_plan : (w : Written) (good : WellWritten w) → bs ≡ plan_bytes w → (x : Option ℕ) × Noted w.bits w.lines w.auxiliaries w.items x × (judge bs ≡ judge_whole (seen w.bits w.lines w.auxiliaries w.items x))
  whole_plan w good is =
      let h = end_record w good [] is in
      let long = ap length is in
      (h.0, h.1, h.2 ∙ cond-false (ltb (length (plan_bytes w)) (length bs)) _ _ (le-ltb _ _ (omega arith)))

  pub admitted_so : (w : Written) → bs ≡ plan_bytes w → InOrder w → judge bs ≡ Ok (parts_from w)
  admitted_so w is order =
      let good = order.well_written in
      let h = whole_plan w good is in
      h.2 ∙ ap (judge_loop (seen w.bits w.lines w.auxiliaries w.items h.0)) (finds_none w good order.loop_free) ∙ by h.0 h.1
    where
      by : (x : Option ℕ) → Noted w.bits w.lines w.auxiliaries w.items x → judge_clash (parts_from w) x ≡ Ok (parts_from w)
      by None agreed = refl
      by (Some o) first = absurd (first_in_the_way w o first order.agreeing)

  module _ (small : (i : ℕ) → byte bs i < 256) where
    -- no well-formed item is written so, so the record is not in order
    unfit : (w : Written) → Limits w.bits w.lines w.auxiliaries → (o code : ℕ) (body rest : List ℕ) → drop o bs ≡ code ∷ (body ++ rest) → ClauseKind code → Whole code body
        → ((i : Item) → Formed w.bits w.lines w.auxiliaries i → item_bytes i ≡ code ∷ body → ⊥) → item_fits w.bits w.lines w.auxiliaries bs o code ≡ false
    unfit w limits o code body rest here range known none = by (item_fits w.bits w.lines w.auxiliaries bs o code) refl
      where
        by : (t : Bool) → item_fits w.bits w.lines w.auxiliaries bs o code ≡ t → t ≡ false
        by false e = refl
        by true e =
            let there = byte_there plan_kinds bs o code (body ++ rest) here in
            let sum = length-append body rest in
            let lt = there.0 in
            let long = there.1 in
            let h = item_from w.bits w.lines w.auxiliaries bs small o code (length body) range there.2 known (omega arith) e in
            let i = h.0.item in
            let size : length (code ∷ body) ≡ length (item_bytes i) = let k = h.1 in omega arith in
            let written : item_bytes i ≡ code ∷ body =
            sym (take_at (item_bytes i) (drop (o + length (item_bytes i)) bs) (length (item_bytes i)) refl)
            ∙ ap (take (length (item_bytes i))) (sym h.0.here ∙ here)
            ∙ take_at (code ∷ body) rest (length (item_bytes i)) size in
            absurd (none i h.0.formed written)

    kind_range : (code : ℕ) → ClauseKind code → (code ≡ 15 → ⊥) × (eqb code 1 ≡ false)
    kind_range code range =
        let low = range.0 in
        let high = range.1 in
        (λ is. omega arith, ne_eqb code 1 (λ is. omega arith))

    pub refused_so : (f : PlanFault) → Refused bs f → judge bs ≡ Err f
    refused_so f (no_byte o next) = next_fault o [] next (Unfinished o) (λ here. nothing here)
    refused_so f (cut_short o code n part next known few) = next_fault o (code ∷ part) next (Unfinished o) (λ here. short code n part here known few)
    refused_so f (unknown o code rest next known) = next_fault o (code ∷ rest) next (UnknownKind o) (λ here. strange code rest here known)
    refused_so f (no_head code body rest is known other) =
        let r : Record = record { offset = 0; code = code; end = 0 + 1 + length body } in
        ap (judge_head bs) (read_so plan_kinds bs 0 (Ok r) (whole code body rest is known)) ∙ cond-false (eqb code 1) _ _ (ne_eqb code 1 other)
    refused_so f (second_head w o body rest read known) = record_refused w o 1 body rest read known (λ is. omega arith) (HeadMisplaced o) (λ x here. refl)
    refused_so f (sizes b n m rest is beyond) = head_there b n m rest is ∙ cond-false (sizes_fit b n m) _ _ (by (sizes_fit b n m) refl)
      where
        by : (t : Bool) → sizes_fit b n m ≡ t → t ≡ false
        by true e = absurd (beyond (limits_from b n m e))
        by false e = refl
    refused_so f (too_many w o code body rest read range known full) =
        let k = kind_range code range in
        record_refused w o code body rest read known k.0 (TooManyClauses o)
        (λ x here. cond-false (eqb code 1) _ _ k.1 ∙ cond-true (leb most_clauses (length w.items)) _ _ (le-leb most_clauses (length w.items) (omega arith)))
    refused_so f (malformed w o code body rest read range known room none) =
        let k = kind_range code range in
        record_refused w o code body rest read known k.0 (Malformed o)
        (λ x here. cond-false (eqb code 1) _ _ k.1 ∙ cond-false (leb most_clauses (length w.items)) _ _ (lt-leb most_clauses (length w.items) room)
        ∙ cond-false (item_fits w.bits w.lines w.auxiliaries bs o code) _ _ (unfit w read.well_written.limits o code body rest here range known none))
    refused_so f (after_end w x rest good is) =
        let all : bs ≡ front w ++ (15 ∷ (x ∷ rest)) = is ∙ append_assoc (front w) (15 ∷ []) (x ∷ rest) in
        let long : length bs ≡ length (plan_bytes w) + suc (length rest) = ap length is ∙ length-append (plan_bytes w) (x ∷ rest) in
        (end_record w good (x ∷ rest) all).2 ∙ cond-true (ltb (length (plan_bytes w)) (length bs)) _ _ (lt-ltb _ _ (omega arith))
    refused_so f (loop w l good is first) =
        let h = whole_plan w good is in
        h.2 ∙ ap (judge_loop (seen w.bits w.lines w.auxiliaries w.items h.0)) (finds_loop w good l first)
    refused_so f (clash w o good is free first) =
        let h = whole_plan w good is in
        h.2 ∙ ap (judge_loop (seen w.bits w.lines w.auxiliaries w.items h.0)) (finds_none w good free) ∙ by h.0 h.1
      where
        by : (x : Option ℕ) → Noted w.bits w.lines w.auxiliaries w.items x → judge_clash (parts_from w) x ≡ Err (Clash o)
        by None agreed = absurd (first_in_the_way w o first agreed)
        by (Some k) other = ap (λ i. Err (Clash i)) (one_first w k o other first)

-- a record that was read is whole
whole_of : (bs : List ℕ) (at : ℕ) (x : Result Record BytesFault) → Standing plan_kinds bs at x → (r : Record) → x ≡ Ok r → (body rest : List ℕ) × (drop at bs ≡ r.code ∷ (body ++ rest)) × Whole r.code body × (r.offset ≡ at) × (r.end ≡ at + 1 + length body)
whole_of bs at x (nothing is) r e = absurd (err_ok _ r e)
whole_of bs at x (strange code rest is known) r e = absurd (err_ok _ r e)
whole_of bs at x (short code n rest is known few) r e = absurd (err_ok _ r e)
whole_of bs at x (whole code body rest is known) r e =
    let same : ◌≡◌ {A = Record} (record { offset = at; code = code; end = at + 1 + length body }) r = cc in
    subst (λ (q : Record). (b c : List ℕ) × (drop at bs ≡ q.code ∷ (b ++ c)) × Whole q.code b × (q.offset ≡ at) × (q.end ≡ at + 1 + length b)) same (body, rest, is, known, refl, refl)

-- a head in order and a record that has to be stored are the head and a well-formed item
stores_so : (bs : List ℕ) → ((i : ℕ) → byte bs i < 256) → HasItem bs → Stores bs
stores_so bs small h =
    let first = whole_of bs 0 (record_at bs plan_kinds 0) (standing plan_kinds bs 0) h.0 h.1 in
    let head = head_is bs h.0.code first.0 first.1 first.2 first.3 h.2 in
    let b = byte bs 1 in
    let n = byte bs 2 in
    let m = byte bs 3 in
    let limits = limits_from b n m h.3 in
    let long = head.1 in
    let place = first.5 in
    let r = h.4.0 in
    let end : h.0.end ≡ 4 = omega arith in
    let there = whole_of bs 4 (record_at bs plan_kinds 4) (standing plan_kinds bs 4) r (subst (λ k. record_at bs plan_kinds k ≡ Ok r) end h.4.1) in
    let body = there.0 in
    let found = byte_there plan_kinds bs 4 r.code (body ++ there.1) there.2 in
    let sum = length-append body there.1 in
    let lt = found.0 in
    let left = found.1 in
    let store = h.4.2 in
    let fits : item_fits b n m bs 4 r.code ≡ true = subst (λ o. item_fits b n m bs o r.code ≡ true) there.4 store.2 in
    let w = item_from b n m bs small 4 r.code (length body) (store.0, store.1) found.2 there.3 (omega arith) fits in
    let i = w.0.item in
    let s = sofar_more b n m limits bs [] None 4 (sofar_none b n m limits bs first.1 head.0) i w.0.formed (omega arith) _ w.0.here in
    (paper b n m (i ∷ []), _, s.read_to.well_written, s.read_to.bytes_are, omega arith)

-- what is promised of reading, from what it is equal to
module _ (bs : List ℕ) (small : (i : ℕ) → byte bs i < 256) where
  pub told_so : (r : Result Plan PlanFault) → AsExpected (judge bs) parts_of r → Spared (HasItem bs) r → Told bs r
  told_so (Ok x) is spared = subst (Outcome bs) is (judged_told bs small)
  told_so (Err (Bytes f)) is spared = inr (subst (Outcome bs) is (judged_told bs small))
  told_so (Err (HeadMisplaced o)) is spared = inr (subst (Outcome bs) is (judged_told bs small))
  told_so (Err SizeLimits) is spared = inr (subst (Outcome bs) is (judged_told bs small))
  told_so (Err (TooManyClauses o)) is spared = inr (subst (Outcome bs) is (judged_told bs small))
  told_so (Err (Malformed o)) is spared = inr (subst (Outcome bs) is (judged_told bs small))
  told_so (Err (Loop l)) is spared = inr (subst (Outcome bs) is (judged_told bs small))
  told_so (Err (Clash o)) is spared = inr (subst (Outcome bs) is (judged_told bs small))
  told_so (Err Memory) is spared = inl (refl, stores_so bs small spared)

  -- want of memory is pleaded only where there is something to store
  pub read_spared : (r : Result Plan PlanFault) → Spared (HasItem bs) r → Spared (Stores bs) r
  read_spared (Ok x) spared = tt
  read_spared (Err f) spared = pleads_for (HasItem bs) (Stores bs) (stores_so bs small) f spared

  pub read_admits : (r : Result Plan PlanFault) → AsExpected (judge bs) parts_of r → (w : Written) → bs ≡ plan_bytes w → InOrder w → AsExpected (Ok (parts_from w)) parts_of r
  read_admits r is w written order = subst (λ (e : Result Parts PlanFault). AsExpected e parts_of r) (admitted_so bs w written order) is

  pub read_refuses : (r : Result Plan PlanFault) → AsExpected (judge bs) parts_of r → (f : PlanFault) → Refused bs f → AsExpected {X = Plan} {Y = Parts} (Err f) parts_of r
  read_refuses r is f refused = subst (λ (e : Result Parts PlanFault). AsExpected e parts_of r) (refused_so bs small f refused) is
