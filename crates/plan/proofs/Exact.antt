-- Judging a file and writing a plan down agree, both ways. Assumes nothing.
use Rattle.std.proofs.Common.{◌≡◌, ℕ, zero, suc, ◌+◌, ◌<◌, ◌≤◌, Bool, true, false, cond, eqb, ltb, leb, List, [], ◌∷◌, ◌++◌, length, drop, Some, None, Ok, Err, Option, Result, sym, refl, ap, ◌∙◌, subst, inl, inr, ⊎_elim, arith}
use mathlib.Core.List.Memᴰ
use Rattle.std.specs.List.{flat_map}
use Rattle.std.proofs.lemmas.List.{append_assoc, drop_all, drop_at, drop-drop, flat_map_more, length-append, length_push, nil_from_length}
use Rattle.std.proofs.lemmas.Bool.{cond-true, cond-false, eqb-true, eqb-false, le-ltb, lt-ltb, lt-leb, leb-true, leb-false, both_ways}
use Rattle.records.specs.Reading.{Record, body_length, record_at}
use Rattle.records.specs.declared.BytesFault.{BytesFault}
use Rattle.records.specs.declared.BytesFault.TheVariants.{AfterEnd}
use Rattle.records.proofs.Standing.{Standing, standing, byte_there}
use Rattle.records.proofs.Standing.Standing.{nothing, strange, short, whole}
use Rattle.plan.specs.Depends.{LoopFree}
use Rattle.plan.specs.Items.{byte, clause_at, item_fits}
use Rattle.plan.specs.Judging.{Seen, plan_kinds, most_clauses, clashes_with, earlier, kept, none_yet, judge, judge_clash, judge_end, judge_found, judge_from, judge_head, judge_loop, judge_record, judge_whole, go_on}
use Rattle.plan.specs.Machine.{Parts}
use Rattle.plan.specs.Refused.{ClauseKind, FirstClash, ReadTo, Refused, Whole}
use Rattle.plan.specs.Refused.Refused.{no_byte, cut_short, unknown, no_head, second_head, sizes, too_many, malformed, after_end, loop, clash}
use Rattle.plan.specs.Sizes.{sizes_fit}
use Rattle.plan.specs.Written.{Item, Written, Agreeing, Formed, InOrder, Limits, WellWritten, front, plan_bytes, item_bytes, parts_from, auxiliary_of}
use Rattle.plan.specs.Written.Item.{start, next, auxiliary, ban}
use Rattle.plan.specs.declared.clause.Clause.{Clause}
use Rattle.plan.specs.declared.fault.PlanFault.{PlanFault}
use Rattle.plan.specs.declared.fault.PlanFault.TheVariants.{Bytes, HeadMisplaced, SizeLimits, TooManyClauses, Malformed}
use Rattle.plan.proofs.Firsts.{searched, loop_found, no_loop_found}
use Rattle.plan.proofs.Judge.{sort_of}
use Rattle.plan.proofs.Sizing.{limits_from, sizes_from}
use Rattle.plan.proofs.Sorting.{parts_more, clash_told, agreeing_more}
use Rattle.plan.proofs.Writing.{kind_body, kind_of, says, item_from, read_as}

-- what judging comes to, in words
abbrev pub Outcome : List ℕ → Result Parts PlanFault → Type 0
Outcome bs (Ok p) = (w : Written) × (bs ≡ plan_bytes w) × InOrder w × (p ≡ parts_from w)
Outcome bs (Err f) = Refused bs f

abbrev pub paper : ℕ → ℕ → ℕ → List Item → Written
paper b n m items = record { bits = b; lines = n; auxiliaries = m; items = items }

-- what reading these items has seen, with the clash that was noted
abbrev pub seen : ℕ → ℕ → ℕ → List Item → Option ℕ → Seen
seen b n m items x = record { parts = parts_from (paper b n m items); count = length items; clash_at = x }

-- the note on clashes is right
abbrev pub Noted : ℕ → ℕ → ℕ → List Item → Option ℕ → Type 0
Noted b n m items None = Agreeing items
Noted b n m items (Some o) = FirstClash (paper b n m items) o

not_head : (i : Item) → eqb (kind_of i) 1 ≡ false
not_head (start l v) = refl
not_head (next c) = refl
not_head (auxiliary c) = refl
not_head (ban c) = refl

pub not_end : (i : Item) → eqb (kind_of i) 15 ≡ false
not_end (start l v) = refl
not_end (next c) = refl
not_end (auxiliary c) = refl
not_end (ban c) = refl

module _ (b n m : ℕ) (limits : Limits b n m) (bs : List ℕ) where
  -- the items were read, up to the offset
  pub record Sofar (items : List Item) (x : Option ℕ) (at : ℕ) : Type 0 where
    pub read_to : ReadTo bs (paper b n m items) at (drop at bs)
    pub noted : Noted b n m items x

  -- the note with one item more
  abbrev pub noted_with : List Item → Item → Option ℕ → ℕ → Option ℕ
  noted_with items i x at = earlier x (clashes_with (parts_from (paper b n m items)) (kind_of i) (says i)) at

  noted_more : (items : List Item) (i : Item) (at : ℕ) → at ≡ 4 + length (flat_map item_bytes items) → (x : Option ℕ) → Noted b n m items x → (t : Bool) → clashes_with (parts_from (paper b n m items)) (kind_of i) (says i) ≡ t → Noted b n m (items ++ (i ∷ [])) (earlier x t at)
  noted_more items i at place (Some o) c t is = record {
    before = c.before;
    item = c.item;
    after = c.after ++ (i ∷ []);
    split = ap (λ xs. xs ++ (i ∷ [])) c.split ∙ append_assoc c.before (c.item ∷ c.after) (i ∷ []);
    place = c.place;
    clashes = c.clashes;
    first = c.first;
  }
  noted_more items i at place None agreed true is = record {
    before = items;
    item = i;
    after = [];
    split = refl;
    place = place;
    clashes = (clash_told b n m items i).0 is;
    first = agreed;
  }
  noted_more items i at place None agreed false is = agreeing_more b n m items i is agreed

  front_more : (items : List Item) (i : Item) → front (paper b n m items) ++ item_bytes i ≡ front (paper b n m (items ++ (i ∷ [])))
  front_more items i = flat_map_more item_bytes (1 ∷ (b ∷ (n ∷ (m ∷ [])))) items i

  front_long : (items : List Item) → length (front (paper b n m items)) ≡ 4 + length (flat_map item_bytes items)
  front_long items = omega arith

  pub sofar_more : (items : List Item) (x : Option ℕ) (at : ℕ) → Sofar items x at → (i : Item) → Formed b n m i → length items < most_clauses → (rest : List ℕ) → drop at bs ≡ item_bytes i ++ rest → Sofar (items ++ (i ∷ [])) (noted_with items i x at) (at + length (item_bytes i))
  sofar_more items x at s i fine room rest here =
      let r = s.read_to in
      let left : drop (at + length (item_bytes i)) bs ≡ rest = sym (drop-drop (length (item_bytes i)) at bs) ∙ ap (drop (length (item_bytes i))) here ∙ drop_at (item_bytes i) rest (length (item_bytes i)) refl in
      let longer = ap length (front_more items i) in
      let sum = length-append (front (paper b n m items)) (item_bytes i) in
      let was = r.place in
      let pushed = length_push items i in
      record {
        read_to = record {
          well_written = record {
            limits = limits;
            few = omega arith;
            formed = λ j here_j. ⊎_elim (r.well_written.formed j) (λ new. subst (λ k. Formed b n m k) (sym (Memᴰ.eq_of_singleton new)) fine) (Memᴰ.append_cases items here_j);
          };
          bytes_are = r.bytes_are ∙ ap (λ xs. front (paper b n m items) ++ xs) here ∙ sym (append_assoc (front (paper b n m items)) (item_bytes i) rest) ∙ ap (λ xs. xs ++ rest) (front_more items i) ∙ ap (λ xs. front (paper b n m (items ++ (i ∷ []))) ++ xs) (sym left);
          place = omega arith;
        };
        noted = noted_more items i at (was ∙ front_long items) x s.noted (clashes_with (parts_from (paper b n m items)) (kind_of i) (says i)) refl;
      }

  kept_more : (items : List Item) (i : Item) (x : Option ℕ) (at : ℕ) → kept (seen b n m items x) at (kind_of i) (says i) ≡ seen b n m (items ++ (i ∷ [])) (noted_with items i x at)
  kept_more items i x at =
      let p = parts_more b n m items i in
      let c = length_push items i in
      cc

  -- a record of a well-formed item is taken
  pub taken : (items : List Item) (x : Option ℕ) (at : ℕ) (i : Item) → Formed b n m i → length items < most_clauses → (rest : List ℕ) → drop at bs ≡ item_bytes i ++ rest → judge_record bs (seen b n m items x) at (kind_of i) ≡ Ok (seen b n m (items ++ (i ∷ [])) (noted_with items i x at))
  taken items x at i fine room rest here =
      let w = read_as b n m limits bs at rest i fine here in
      cond-false (eqb (kind_of i) 1) _ _ (not_head i)
      ∙ cond-false (leb most_clauses (length items)) _ _ (lt-leb most_clauses (length items) room)
      ∙ cond-true (item_fits b n m bs at (kind_of i)) _ _ w.1
      ∙ ap (λ (c : Clause). Ok (kept (seen b n m items x) at (kind_of i) c)) w.0
      ∙ ap Ok (kept_more items i x at)

  -- the file ends after these items: loops, then clashes
  at_the_end : (items : List Item) (x : Option ℕ) (at : ℕ) → Sofar items x at → bs ≡ plan_bytes (paper b n m items) → Outcome bs (judge_whole (seen b n m items x))
  at_the_end items x at s is = by_loop (searched (paper b n m items)) refl
    where
      w : WellWritten (paper b n m items)
      w = s.read_to.well_written

      by_clash : LoopFree (flat_map auxiliary_of items) → (y : Option ℕ) → Noted b n m items y → Outcome bs (judge_clash (parts_from (paper b n m items)) y)
      by_clash free (Some o) first = clash (paper b n m items) o w is free first
      by_clash free None agreed = (paper b n m items, is, record { well_written = w; loop_free = free; agreeing = agreed }, refl)

      by_loop : (o : Option ℕ) → searched (paper b n m items) ≡ o → Outcome bs (judge_loop (seen b n m items x) o)
      by_loop (Some l) e = loop (paper b n m items) l w is (loop_found (paper b n m items) w l e)
      by_loop None e = by_clash (no_loop_found (paper b n m items) w e) x s.noted

  -- what is left from the offset on
  left_is : (items : List Item) (x : Option ℕ) (at : ℕ) → Sofar items x at → (rest : List ℕ) → drop at bs ≡ rest → ReadTo bs (paper b n m items) at rest
  left_is items x at s rest is = subst (λ r. ReadTo bs (paper b n m items) at r) is s.read_to

  -- an end record: nothing may stand after it
  at_end_record : (items : List Item) (x : Option ℕ) (at : ℕ) → Sofar items x at → (rest : List ℕ) (end : ℕ) → end ≡ at + 1 → drop at bs ≡ 15 ∷ rest → Outcome bs (judge_end bs (seen b n m items x) end)
  at_end_record items x at s [] end place is =
      let r = left_is items x at s (15 ∷ []) is in
      let whole_length : length bs ≡ length (front (paper b n m items)) + 1 = ap length r.bytes_are ∙ length_push (front (paper b n m items)) 15 in
      let was = r.place in
      subst (Outcome bs) (sym (cond-false (ltb end (length bs)) _ _ (le-ltb end (length bs) (omega arith)))) (at_the_end items x at s r.bytes_are)
  at_end_record items x at s (y ∷ rest) end place is =
      let r = left_is items x at s (15 ∷ (y ∷ rest)) is in
      let w = paper b n m items in
      let bytes : bs ≡ plan_bytes w ++ (y ∷ rest) = r.bytes_are ∙ sym (append_assoc (front w) (15 ∷ []) (y ∷ rest)) in
      let long = length_push (front w) 15 in
      let all : length bs ≡ length (plan_bytes w) + suc (length rest) = ap length bytes ∙ length-append (plan_bytes w) (y ∷ rest) in
      let was = r.place in
      let here : length (plan_bytes w) ≡ end = omega arith in
      subst (Outcome bs) (sym (cond-true (ltb end (length bs)) _ _ (lt-ltb end (length bs) (omega arith))))
      (subst (λ o. Refused bs (Bytes (AfterEnd o))) here (after_end w y rest r.well_written bytes))

  module _ (small : (i : ℕ) → byte bs i < 256) where
    -- a record of a clause or ban that is no record of a well-formed item
    not_an_item : (items : List Item) (x : Option ℕ) (at : ℕ) → Sofar items x at → (code : ℕ) (body rest : List ℕ) → drop at bs ≡ code ∷ (body ++ rest) → Whole code body → ClauseKind code → length items < most_clauses → item_fits b n m bs at code ≡ false → Refused bs (Malformed at)
    not_an_item items x at s code body rest is known range room unfit =
        malformed (paper b n m items) at code body rest (left_is items x at s _ is) range known room
        (λ i fine same.
        let here : drop at bs ≡ item_bytes i ++ rest = is ∙ ap (λ xs. xs ++ rest) (sym same) in
        let kind : kind_of i ≡ code = let k = kind_body i in cc in
        both_ways _ unfit (subst (λ c. item_fits b n m bs at c ≡ true) kind (read_as b n m limits bs at rest i fine here).1))

    -- a whole record: the end, or one more that is judged, after which it goes on
    module _ (go : Seen → ℕ → Result Parts PlanFault) (items : List Item) (x : Option ℕ) (at : ℕ) (s : Sofar items x at)
        (later : (more : List Item) (y : Option ℕ) (end : ℕ) → Sofar more y end → at < end → Outcome bs (go (seen b n m more y) end))
        (code : ℕ) (body rest : List ℕ) (is : drop at bs ≡ code ∷ (body ++ rest)) (known : Whole code body) where
      taken_on : ClauseKind code → length items < most_clauses → item_fits b n m bs at code ≡ true → Outcome bs (go (kept (seen b n m items x) at code (clause_at bs at code)) (at + 1 + length body))
      taken_on range room fits =
          let there = byte_there plan_kinds bs at code (body ++ rest) is in
          let sum = length-append body rest in
          let lt = there.0 in
          let long = there.1 in
          let w = item_from b n m bs small at code (length body) range there.2 known (omega arith) fits in
          let i = w.0.item in
          let more = items ++ (i ∷ []) in
          let same : seen b n m more (noted_with items i x at) ≡ kept (seen b n m items x) at code (clause_at bs at code) =
          sym (kept_more items i x at) ∙ ap (λ k. kept (seen b n m items x) at k (says i)) w.0.kind ∙ ap (λ c. kept (seen b n m items x) at code c) w.0.clause in
          let size = w.1 in
          let end : at + length (item_bytes i) ≡ at + 1 + length body = omega arith in
          let next_sofar = sofar_more items x at s i w.0.formed room _ w.0.here in
          subst (λ k. Outcome bs (go (kept (seen b n m items x) at code (clause_at bs at code)) k)) end
          (subst (λ t. Outcome bs (go t (at + length (item_bytes i)))) same (later more (noted_with items i x at) (at + length (item_bytes i)) next_sofar (omega arith)))

      by_fit : ClauseKind code → length items < most_clauses → (t : Bool) → item_fits b n m bs at code ≡ t → Outcome bs (go_on go (at + 1 + length body) (cond t (Ok (kept (seen b n m items x) at code (clause_at bs at code))) (Err (Malformed at))))
      by_fit range room true fits = taken_on range room fits
      by_fit range room false unfit = not_an_item items x at s code body rest is known range room unfit

      by_count : ClauseKind code → (t : Bool) → leb most_clauses (length items) ≡ t → Outcome bs (go_on go (at + 1 + length body) (cond t (Err (TooManyClauses at)) (cond (item_fits b n m bs at code) (Ok (kept (seen b n m items x) at code (clause_at bs at code))) (Err (Malformed at)))))
      by_count range true full =
          let many = leb-true most_clauses (length items) full in
          let few = s.read_to.well_written.few in
          too_many (paper b n m items) at code body rest (left_is items x at s _ is) range known (omega arith)
      by_count range false room = by_fit range (leb-false most_clauses (length items) room) (item_fits b n m bs at code) refl

      by_head : (code ≡ 15 → ⊥) → (t : Bool) → eqb code 1 ≡ t → Outcome bs (go_on go (at + 1 + length body) (cond t (Err (HeadMisplaced at)) (cond (leb most_clauses (length items)) (Err (TooManyClauses at)) (cond (item_fits b n m bs at code) (Ok (kept (seen b n m items x) at code (clause_at bs at code))) (Err (Malformed at))))))
      by_head other true e =
          let one : code ≡ 1 = eqb-true code 1 e in
          second_head (paper b n m items) at body rest (left_is items x at s _ (is ∙ ap (λ c. c ∷ (body ++ rest)) one)) (subst (λ c. Whole c body) one known)
      by_head other false e =
          let not_1 = eqb-false code 1 e in
          by_count (⊎_elim (λ end. absurd (other end)) (λ r. let low = r.0 in (omega (arith, not_1), r.1)) (sort_of code (length body) known)) (leb most_clauses (length items)) refl

      one_record : (t : Bool) → eqb code 15 ≡ t → Outcome bs (cond t (judge_end bs (seen b n m items x) (at + 1 + length body)) (go_on go (at + 1 + length body) (judge_record bs (seen b n m items x) at code)))
      one_record true e =
          let end : code ≡ 15 = eqb-true code 15 e in
          let known_15 : body_length plan_kinds 15 ≡ Some (length body) = subst (λ c. Whole c body) end known in
          let none : 0 ≡ length body = cc in
          let empty : body ≡ [] = nil_from_length body (sym none) in
          at_end_record items x at s rest (at + 1 + length body) (omega arith) (is ∙ ap (λ c. c ∷ (body ++ rest)) end ∙ ap (λ xs. 15 ∷ (xs ++ rest)) empty)
      one_record false e = by_head (eqb-false code 15 e) (eqb code 1) refl

    walk : (f : ℕ) (items : List Item) (x : Option ℕ) (at : ℕ) → Sofar items x at → length bs ≤ at + f → Outcome bs (judge_from f bs (seen b n m items x) at)
    walk zero items x at s enough = no_byte at (inr (paper b n m items, left_is items x at s [] (drop_all at bs (omega arith))))
    walk (suc f) items x at s enough = by_standing (λ more y end sofar left. walk f more y end sofar left) (record_at bs plan_kinds at) (standing plan_kinds bs at)
      where
        by_standing : ((more : List Item) (y : Option ℕ) (end : ℕ) → Sofar more y end → length bs ≤ end + f → Outcome bs (judge_from f bs (seen b n m more y) end)) → (r : Result Record BytesFault) → Standing plan_kinds bs at r → Outcome bs (judge_found (λ t end. judge_from f bs t end) bs (seen b n m items x) r)
        by_standing later r (nothing is) = no_byte at (inr (paper b n m items, left_is items x at s [] is))
        by_standing later r (strange code rest is known) = unknown at code rest (inr (paper b n m items, left_is items x at s (code ∷ rest) is)) known
        by_standing later r (short code k rest is known few) = cut_short at code k rest (inr (paper b n m items, left_is items x at s (code ∷ rest) is)) known few
        by_standing later r (whole code body rest is known) =
            one_record (λ t end. judge_from f bs t end) items x at s (λ more y end sofar past. later more y end sofar (omega arith)) code body rest is known (eqb code 15) refl

  -- the head alone
  pub sofar_none : (rest : List ℕ) → bs ≡ 1 ∷ (b ∷ (n ∷ (m ∷ rest))) → Sofar [] None 4
  sofar_none rest is = record {
    read_to = record {
      well_written = record { limits = limits; few = omega arith; formed = λ i here. absurd (Memᴰ.not-nil here) };
      bytes_are = is ∙ ap (λ xs. 1 ∷ (b ∷ (n ∷ (m ∷ xs)))) (sym (ap (drop 4) is));
      place = refl;
    };
    noted = record { starts = λ c d here. absurd (Memᴰ.not-nil here); nexts = λ c d here. absurd (Memᴰ.not-nil here); auxes = λ c d here. absurd (Memᴰ.not-nil here) };
  }

three_of : (xs : List ℕ) → length xs ≡ 3 → (x y z : ℕ) × (xs ≡ x ∷ (y ∷ (z ∷ [])))
three_of [] e = absurd (omega arith)
three_of (x ∷ []) e = absurd (omega arith)
three_of (x ∷ (y ∷ [])) e = absurd (omega arith)
three_of (x ∷ (y ∷ (z ∷ []))) e = (x, y, z, refl)
three_of (x ∷ (y ∷ (z ∷ (u ∷ xs)))) e = absurd (omega arith)

-- a whole head, with the sizes in it
pub head_is : (bs : List ℕ) (code : ℕ) (body rest : List ℕ) → bs ≡ code ∷ (body ++ rest) → Whole code body → code ≡ 1 → (bs ≡ 1 ∷ (byte bs 1 ∷ (byte bs 2 ∷ (byte bs 3 ∷ rest)))) × (length body ≡ 3)
head_is bs code body rest is known one =
    let known_1 : body_length plan_kinds 1 ≡ Some (length body) = subst (λ c. Whole c body) one known in
    let long : 3 ≡ length body = cc in
    let w = three_of body (sym long) in
    let all : bs ≡ 1 ∷ (w.0 ∷ (w.1 ∷ (w.2 ∷ rest))) = is ∙ ap (λ c. c ∷ (body ++ rest)) one ∙ ap (λ xs. 1 ∷ (xs ++ rest)) w.3 in
    let x = ap (λ xs. byte xs 1) all in
    let y = ap (λ xs. byte xs 2) all in
    let z = ap (λ xs. byte xs 3) all in
    (cc, sym long)

-- every file is refused with a fault that it has, or is a plan in order
module _ (bs : List ℕ) (small : (i : ℕ) → byte bs i < 256) where
  by_sizes : (rest : List ℕ) (end : ℕ) → end ≡ 4 → bs ≡ 1 ∷ (byte bs 1 ∷ (byte bs 2 ∷ (byte bs 3 ∷ rest))) → (t : Bool) → sizes_fit (byte bs 1) (byte bs 2) (byte bs 3) ≡ t → Outcome bs (cond t (judge_from (length bs) bs (none_yet (byte bs 1) (byte bs 2) (byte bs 3)) end) (Err SizeLimits))
  by_sizes rest end place is true fits =
      let limits = limits_from _ _ _ fits in
      subst (λ k. Outcome bs (judge_from (length bs) bs (none_yet (byte bs 1) (byte bs 2) (byte bs 3)) k)) (sym place)
      (walk (byte bs 1) (byte bs 2) (byte bs 3) limits bs small (length bs) [] None 4 (sofar_none _ _ _ limits bs rest is) (omega arith))
  by_sizes rest end place is false unfit =
      sizes (byte bs 1) (byte bs 2) (byte bs 3) rest is (λ limits. both_ways _ unfit (sizes_from _ _ _ limits))

  by_first : (code : ℕ) (body rest : List ℕ) → bs ≡ code ∷ (body ++ rest) → Whole code body → (t : Bool) → eqb code 1 ≡ t → Outcome bs (cond t (cond (sizes_fit (byte bs 1) (byte bs 2) (byte bs 3)) (judge_from (length bs) bs (none_yet (byte bs 1) (byte bs 2) (byte bs 3)) (0 + 1 + length body)) (Err SizeLimits)) (Err (HeadMisplaced 0)))
  by_first code body rest is known true e =
      let h = head_is bs code body rest is known (eqb-true code 1 e) in
      let long = h.1 in
      by_sizes rest (0 + 1 + length body) (omega arith) h.0 (sizes_fit (byte bs 1) (byte bs 2) (byte bs 3)) refl
  by_first code body rest is known false e = no_head code body rest is known (eqb-false code 1 e)

  by_standing : (r : Result Record BytesFault) → Standing plan_kinds bs 0 r → Outcome bs (judge_head bs r)
  by_standing r (nothing is) = no_byte 0 (inl (refl, is))
  by_standing r (strange code rest is known) = unknown 0 code rest (inl (refl, is)) known
  by_standing r (short code k rest is known few) = cut_short 0 code k rest (inl (refl, is)) known few
  by_standing r (whole code body rest is known) = by_first code body rest is known (eqb code 1) refl

  pub judged_told : Outcome bs (judge bs)
  judged_told = by_standing (record_at bs plan_kinds 0) (standing plan_kinds bs 0)
