-- The bytes of a record and what it says, both ways. Assumes nothing.
use Rattle.std.proofs.Common.{◌≡◌, ℕ, zero, suc, ◌+◌, ◌*◌, ◌/◌, ◌%◌, ◌^◌, ◌<◌, ◌≤◌, Bool, true, false, ◌&&◌, eqb, ltb, List, [], ◌∷◌, ◌++◌, length, get_or, drop, Some, sym, refl, ap, ◌∙◌, subst, ⊎_elim, arith, pow_pos, pow_mono}
use Rattle.std.proofs.lemmas.List.{drop_more, drop-drop, get_or-drop}
use Rattle.std.proofs.lemmas.Bool.{cases_eq, and_parts, and_from, leb-true, ltb-true, le-leb, lt-ltb}
use Rattle.records.specs.Reading.{body_length}
use Rattle.plant.specs.declared.condition.Condition.{Condition}
use Rattle.plan.specs.Judging.{plan_kinds}
use Rattle.plan.specs.Refused.{ClauseKind, Whole}
use Rattle.plan.specs.Items.{always, byte, mask_at, condition_at, clause_at, item_fits}
use Rattle.plan.specs.Written.{Item, Formed, Limits, MasksBelow, mask_bytes, value_byte, condition_bytes, clause_bytes, item_bytes, start_clause}
use Rattle.plan.specs.Written.Item.{start, next, auxiliary, ban}
use Rattle.plan.specs.declared.clause.Clause.{Clause}

-- a value byte and the value it stands for
value_back : (x : ℕ) → x ≤ 1 → value_byte (eqb x 1) ≡ x
value_back zero le = refl
value_back (suc zero) le = refl
value_back (suc (suc x)) le = absurd (omega arith)

-- a list of at least so many bytes, taken apart at its front
module _ (bs : List ℕ) where
  one : (i j : ℕ) → j ≡ i + 1 → i < length bs → drop i bs ≡ byte bs i ∷ drop j bs
  one i j is lt = drop_more bs i 0 lt ∙ ap (λ k. byte bs i ∷ drop k bs) (sym is)

  module _ (small : (i : ℕ) → byte bs i < 256) where
    mask_back : (i : ℕ) → i + 4 ≤ length bs → drop i bs ≡ mask_bytes (mask_at bs i) ++ drop (i + 4) bs
    mask_back i le =
        let s0 = small i in
        let s1 = small (i + 1) in
        let s2 = small (i + 2) in
        let s3 = small (i + 3) in
        let e0 : drop i bs ≡ byte bs i ∷ drop (i + 1) bs = one i (i + 1) (omega arith) (omega arith) in
        let e1 : drop (i + 1) bs ≡ byte bs (i + 1) ∷ drop (i + 2) bs = one (i + 1) (i + 2) (omega arith) (omega arith) in
        let e2 : drop (i + 2) bs ≡ byte bs (i + 2) ∷ drop (i + 3) bs = one (i + 2) (i + 3) (omega arith) (omega arith) in
        let e3 : drop (i + 3) bs ≡ byte bs (i + 3) ∷ drop (i + 4) bs = one (i + 3) (i + 4) (omega arith) (omega arith) in
        let x0 : mask_at bs i / 16777216 % 256 ≡ byte bs i = omega arith in
        let x1 : mask_at bs i / 65536 % 256 ≡ byte bs (i + 1) = omega arith in
        let x2 : mask_at bs i / 256 % 256 ≡ byte bs (i + 2) = omega arith in
        let x3 : mask_at bs i % 256 ≡ byte bs (i + 3) = omega arith in
        cc

    condition_back : (i : ℕ) → i + 8 ≤ length bs → drop i bs ≡ condition_bytes (condition_at bs i) ++ drop (i + 8) bs
    condition_back i le =
        let first = mask_back i (omega arith) in
        let second : drop (i + 4) bs ≡ mask_bytes (mask_at bs (i + 4)) ++ drop (i + 8) bs =
        mask_back (i + 4) (omega arith) ∙ ap (λ k. mask_bytes (mask_at bs (i + 4)) ++ drop k bs) (omega arith) in
        first ∙ ap (λ xs. mask_bytes (mask_at bs i) ++ xs) second

    -- kind, letter and value
    three_back : (i : ℕ) → i + 3 ≤ length bs → drop i bs ≡ byte bs i ∷ (byte bs (i + 1) ∷ (byte bs (i + 2) ∷ drop (i + 3) bs))
    three_back i le =
        let e0 : drop i bs ≡ byte bs i ∷ drop (i + 1) bs = one i (i + 1) (omega arith) (omega arith) in
        let e1 : drop (i + 1) bs ≡ byte bs (i + 1) ∷ drop (i + 2) bs = one (i + 1) (i + 2) (omega arith) (omega arith) in
        let e2 : drop (i + 2) bs ≡ byte bs (i + 2) ∷ drop (i + 3) bs = one (i + 2) (i + 3) (omega arith) (omega arith) in
        cc

-- the kind byte of an item, and the clause that reading its record gives
abbrev pub kind_of : Item → ℕ
kind_of (start l v) = 2
kind_of (next c) = 3
kind_of (auxiliary c) = 4
kind_of (ban c) = 5

abbrev pub says : Item → Clause
says (start l v) = start_clause l v
says (next c) = c
says (auxiliary c) = c
says (ban c) = record { letter = 0; value = false; condition = c }

abbrev pub body_of : Item → List ℕ
body_of (start l v) = l ∷ (value_byte v ∷ [])
body_of (next c) = clause_bytes c
body_of (auxiliary c) = clause_bytes c
body_of (ban c) = condition_bytes c

pub kind_body : (i : Item) → item_bytes i ≡ kind_of i ∷ body_of i
kind_body (start l v) = refl
kind_body (next c) = refl
kind_body (auxiliary c) = refl
kind_body (ban c) = refl

pub known_kind : (i : Item) → Whole (kind_of i) (body_of i)
known_kind (start l v) = refl
known_kind (next c) = refl
known_kind (auxiliary c) = refl
known_kind (ban c) = refl

item_long : (i : Item) (code k : ℕ) → kind_of i ≡ code → body_length plan_kinds code ≡ Some k → length (item_bytes i) ≡ 1 + k
item_long i code k is known =
    let own : body_length plan_kinds code ≡ Some (length (body_of i)) = subst (λ c. body_length plan_kinds c ≡ Some (length (body_of i))) is (known_kind i) in
    let same : length (body_of i) ≡ k = cc in
    let long = ap length (kind_body i) in
    omega arith

-- the record at an offset is that of a well-formed item
pub record Item_at (b n m : ℕ) (bs : List ℕ) (at code : ℕ) : Type 0 where
  pub item : Item
  pub kind : kind_of item ≡ code
  pub clause : says item ≡ clause_at bs at code
  pub formed : Formed b n m item
  pub here : drop at bs ≡ item_bytes item ++ drop (at + length (item_bytes item)) bs

module _ (b n m : ℕ) (bs : List ℕ) (small : (i : ℕ) → byte bs i < 256) (at : ℕ) where
  masks_of : (code : ℕ) → item_fits b n m bs at code ≡ true → MasksBelow (b + n + m) (clause_at bs at code).condition
  masks_of code fits = let h = and_parts _ _ (and_parts _ _ fits).1 in (ltb-true _ _ h.0, ltb-true _ _ h.1)

  start_at : byte bs at ≡ 2 → at + 3 ≤ length bs → item_fits b n m bs at 2 ≡ true → Item_at b n m bs at 2
  start_at is le fits =
      let head = and_parts _ _ (and_parts _ _ fits).0 in
      let value : value_byte (eqb (byte bs (at + 2)) 1) ≡ byte bs (at + 2) = value_back (byte bs (at + 2)) (leb-true _ _ head.1) in
      let back = three_back bs small at le in
      record {
        item = start (byte bs (at + 1)) (eqb (byte bs (at + 2)) 1);
        kind = refl;
        clause = refl;
        formed = ltb-true _ _ head.0;
        here = cc;
      }

  clause_back : (code : ℕ) → byte bs at ≡ code → at + 11 ≤ length bs → byte bs (at + 2) ≤ 1 → drop at bs ≡ (code ∷ (byte bs (at + 1) ∷ (value_byte (eqb (byte bs (at + 2)) 1) ∷ condition_bytes (condition_at bs (at + 3))))) ++ drop (at + 11) bs
  clause_back code is le one_or_none =
      let value : value_byte (eqb (byte bs (at + 2)) 1) ≡ byte bs (at + 2) = value_back (byte bs (at + 2)) one_or_none in
      let back = three_back bs small at (omega arith) in
      let more : drop (at + 3) bs ≡ condition_bytes (condition_at bs (at + 3)) ++ drop (at + 11) bs =
      condition_back bs small (at + 3) (omega arith) ∙ ap (λ k. condition_bytes (condition_at bs (at + 3)) ++ drop k bs) (omega arith) in
      cc

  next_at : byte bs at ≡ 3 → at + 11 ≤ length bs → item_fits b n m bs at 3 ≡ true → Item_at b n m bs at 3
  next_at is le fits =
      let head = and_parts _ _ (and_parts _ _ fits).0 in
      record {
        item = next (clause_at bs at 3);
        kind = refl;
        clause = refl;
        formed = (ltb-true _ _ head.0, masks_of 3 fits);
        here = clause_back 3 is le (leb-true _ _ head.1);
      }

  auxiliary_at : byte bs at ≡ 4 → at + 11 ≤ length bs → item_fits b n m bs at 4 ≡ true → Item_at b n m bs at 4
  auxiliary_at is le fits =
      let head = and_parts _ _ (and_parts _ _ fits).0 in
      let range = and_parts _ _ head.0 in
      record {
        item = auxiliary (clause_at bs at 4);
        kind = refl;
        clause = refl;
        formed = (leb-true _ _ range.0, ltb-true _ _ range.1, masks_of 4 fits);
        here = clause_back 4 is le (leb-true _ _ head.1);
      }

  ban_at : byte bs at ≡ 5 → at + 9 ≤ length bs → item_fits b n m bs at 5 ≡ true → Item_at b n m bs at 5
  ban_at is le fits =
      let first : drop at bs ≡ byte bs at ∷ drop (at + 1) bs = one bs at (at + 1) (omega arith) (omega arith) in
      let more : drop (at + 1) bs ≡ condition_bytes (condition_at bs (at + 1)) ++ drop (at + 9) bs =
      condition_back bs small (at + 1) (omega arith) ∙ ap (λ k. condition_bytes (condition_at bs (at + 1)) ++ drop k bs) (omega arith) in
      record {
        item = ban (condition_at bs (at + 1));
        kind = refl;
        clause = refl;
        formed = masks_of 5 fits;
        here = cc;
      }

  -- a whole record of a clause or ban that is in order is the record of a well-formed item
  pub item_from : (code k : ℕ) → ClauseKind code → byte bs at ≡ code → body_length plan_kinds code ≡ Some k → at + 1 + k ≤ length bs → item_fits b n m bs at code ≡ true → (w : Item_at b n m bs at code) × (length (item_bytes w.item) ≡ 1 + k)
  item_from code k range is known long fits =
      let w =
      ⊎_elim (λ two. of_kind 2 two (λ known_2 is_2 fits_2. let same : 2 ≡ k = cc in start_at is_2 (omega arith) fits_2))
      (λ not_2. ⊎_elim (λ three. of_kind 3 three (λ known_3 is_3 fits_3. let same : 10 ≡ k = cc in next_at is_3 (omega arith) fits_3))
      (λ not_3. ⊎_elim (λ four. of_kind 4 four (λ known_4 is_4 fits_4. let same : 10 ≡ k = cc in auxiliary_at is_4 (omega arith) fits_4))
      (λ not_4. of_kind 5 (omega (arith, not_2, not_3, not_4)) (λ known_5 is_5 fits_5. let same : 8 ≡ k = cc in ban_at is_5 (omega arith) fits_5))
      (cases_eq code 4)) (cases_eq code 3)) (cases_eq code 2) in
      (w, item_long w.item code k w.kind known)
    where
      of_kind : (d : ℕ) → code ≡ d → (body_length plan_kinds d ≡ Some k → byte bs at ≡ d → item_fits b n m bs at d ≡ true → Item_at b n m bs at d) → Item_at b n m bs at code
      of_kind d same then =
          subst (λ e. Item_at b n m bs at e) (sym same)
          (then (subst (λ e. body_length plan_kinds e ≡ Some k) same known) (is ∙ same) (subst (λ e. item_fits b n m bs at e ≡ true) same fits))

-- a number below 256 to the 4th is its four digits
digits : (x : ℕ) → x < 4294967296 → (p q r s : ℕ) → p ≡ x / 16777216 % 256 → q ≡ x / 65536 % 256 → r ≡ x / 256 % 256 → s ≡ x % 256 → p * 16777216 + q * 65536 + r * 256 + s ≡ x
digits x lt p q r s ep eq er es =
    let two : x / 256 / 256 ≡ x / 65536 = omega arith in
    let three : x / 65536 / 256 ≡ x / 16777216 = omega arith in
    let high : x / 16777216 < 256 = omega arith in
    let a : x ≡ x / 256 * 256 + s = omega arith in
    let b : x / 256 ≡ x / 65536 * 256 + r = omega arith in
    let c : x / 65536 ≡ x / 16777216 * 256 + q = omega arith in
    let d : x / 16777216 ≡ p = omega arith in
    omega arith

-- and back: what is read from the bytes of an item
module _ (bs : List ℕ) where
  peel : (i j x : ℕ) (xs : List ℕ) → j ≡ i + 1 → drop i bs ≡ x ∷ xs → (byte bs i ≡ x) × (drop j bs ≡ xs)
  peel i j x xs is e = (
    ap (λ k. byte bs k) (omega arith) ∙ sym (get_or-drop i bs 0 0) ∙ ap (λ ys. get_or ys 0 0) e,
    ap (λ k. drop k bs) is ∙ sym (drop-drop 1 i bs) ∙ ap (drop 1) e,
  )

  mask_there : (i x : ℕ) (more : List ℕ) → x < 4294967296 → drop i bs ≡ mask_bytes x ++ more → (mask_at bs i ≡ x) × (drop (i + 4) bs ≡ more)
  mask_there i x more lt e =
      let p0 = peel i (i + 1) _ _ (omega arith) e in
      let p1 = peel (i + 1) (i + 2) _ _ (omega arith) p0.1 in
      let p2 = peel (i + 2) (i + 3) _ _ (omega arith) p1.1 in
      let p3 = peel (i + 3) (i + 4) _ _ (omega arith) p2.1 in
      let e0 : byte bs i ≡ x / 16777216 % 256 = p0.0 in
      let e1 : byte bs (i + 1) ≡ x / 65536 % 256 = p1.0 in
      let e2 : byte bs (i + 2) ≡ x / 256 % 256 = p2.0 in
      let e3 : byte bs (i + 3) ≡ x % 256 = p3.0 in
      (digits x lt (byte bs i) (byte bs (i + 1)) (byte bs (i + 2)) (byte bs (i + 3)) e0 e1 e2 e3, p3.1)

  condition_there : (i : ℕ) (c : Condition) (more : List ℕ) → c.ones < 4294967296 → c.zeros < 4294967296 → drop i bs ≡ condition_bytes c ++ more → condition_at bs i ≡ c
  condition_there i c more small_ones small_zeros e =
      let first = mask_there i c.ones (mask_bytes c.zeros ++ more) small_ones e in
      let second = mask_there (i + 4) c.zeros more small_zeros first.1 in
      let ones : mask_at bs i ≡ c.ones = first.0 in
      let zeros : mask_at bs (i + 4) ≡ c.zeros = second.0 in
      ap (λ x. record { ones = x; zeros = mask_at bs (i + 4) }) ones ∙ ap (λ x. record { ones = c.ones; zeros = x }) zeros

value_there : (v : Bool) → eqb (value_byte v) 1 ≡ v
value_there true = refl
value_there false = refl

value_few : (v : Bool) → value_byte v ≤ 1
value_few true = omega arith
value_few false = omega arith

module _ (b n m : ℕ) (limits : Limits b n m) where
  -- a mask within the letters fits four bytes
  fits_four : (x : ℕ) → x < 2 ^ (b + n + m) → x < 4294967296
  fits_four x lt =
      let few : b + n + m ≤ 32 = let h = limits in omega arith in
      let le : 2 ^ (b + n + m) ≤ 2 ^ 32 = pow_mono few in
      omega arith

  module _ (bs : List ℕ) (at : ℕ) (rest : List ℕ) where
    abbrev ReadAs : Item → Type 0
    ReadAs i = (clause_at bs at (kind_of i) ≡ says i) × (item_fits b n m bs at (kind_of i) ≡ true)

    masks_fit : (code : ℕ) (c : Condition) → (clause_at bs at code).condition ≡ c → MasksBelow (b + n + m) c → (ltb (clause_at bs at code).condition.ones (2 ^ (b + n + m)) && ltb (clause_at bs at code).condition.zeros (2 ^ (b + n + m))) ≡ true
    masks_fit code c is below =
        subst (λ (x : Condition). (ltb x.ones (2 ^ (b + n + m)) && ltb x.zeros (2 ^ (b + n + m))) ≡ true) (sym is)
        (and_from _ _ (lt-ltb _ _ below.0) (lt-ltb _ _ below.1))

    clause_there : (code : ℕ) (c : Clause) → MasksBelow (b + n + m) c.condition → drop at bs ≡ (code ∷ clause_bytes c) ++ rest → (byte bs (at + 1) ≡ c.letter) × (byte bs (at + 2) ≡ value_byte c.value) × (condition_at bs (at + 3) ≡ c.condition)
    clause_there code c below e =
        let p0 = peel bs at (at + 1) _ _ (omega arith) e in
        let p1 = peel bs (at + 1) (at + 2) _ _ (omega arith) p0.1 in
        let p2 = peel bs (at + 2) (at + 3) _ _ (omega arith) p1.1 in
        (p1.0, p2.0, condition_there bs (at + 3) c.condition rest (fits_four _ below.0) (fits_four _ below.1) p2.1)

    clause_is : (l : ℕ) (v : Bool) (d : Condition) (c : Clause) → l ≡ c.letter → v ≡ c.value → d ≡ c.condition → ◌≡◌ {A = Clause} (record { letter = l; value = v; condition = d }) c
    clause_is l v d c el ev ed =
        ap (λ (x : ℕ). record { letter = x; value = v; condition = d }) el
        ∙ ap (λ (x : Bool). record { letter = c.letter; value = x; condition = d }) ev
        ∙ ap (λ (x : Condition). record { letter = c.letter; value = c.value; condition = x }) ed

    pub read_as : (i : Item) → Formed b n m i → drop at bs ≡ item_bytes i ++ rest → ReadAs i
    read_as (start l v) formed e =
        let p0 = peel bs at (at + 1) _ _ (omega arith) e in
        let p1 = peel bs (at + 1) (at + 2) _ _ (omega arith) p0.1 in
        let p2 = peel bs (at + 2) (at + 3) _ _ (omega arith) p1.1 in
        let letter : byte bs (at + 1) ≡ l = p1.0 in
        let value : byte bs (at + 2) ≡ value_byte v = p2.0 in
        let none : 0 < 2 ^ (b + n + m) = pow_pos _ in (
          clause_is _ _ always (start_clause l v) letter (ap (λ x. eqb x 1) value ∙ value_there v) refl,
          and_from _ _ (and_from _ _ (lt-ltb _ _ (subst (λ x. x < b) (sym letter) formed)) (le-leb _ _ (subst (λ x. x ≤ 1) (sym value) (value_few v))))
              (and_from _ _ (lt-ltb _ _ none) (lt-ltb _ _ none)),
        )
    read_as (next c) formed e =
        let w = clause_there 3 c formed.1 e in (
          clause_is _ _ _ c w.0 (ap (λ x. eqb x 1) w.1 ∙ value_there c.value) w.2,
          and_from _ _ (and_from _ _ (lt-ltb _ _ (subst (λ x. x < b) (sym w.0) formed.0)) (le-leb _ _ (subst (λ x. x ≤ 1) (sym w.1) (value_few c.value))))
              (masks_fit 3 c.condition w.2 formed.1),
        )
    read_as (auxiliary c) formed e =
        let w = clause_there 4 c formed.2 e in (
          clause_is _ _ _ c w.0 (ap (λ x. eqb x 1) w.1 ∙ value_there c.value) w.2,
          and_from _ _ (and_from _ _
              (and_from _ _ (le-leb _ _ (subst (λ x. b + n ≤ x) (sym w.0) formed.0)) (lt-ltb _ _ (subst (λ x. x < b + n + m) (sym w.0) formed.1)))
              (le-leb _ _ (subst (λ x. x ≤ 1) (sym w.1) (value_few c.value))))
              (masks_fit 4 c.condition w.2 formed.2),
        )
    read_as (ban c) formed e =
        let p0 = peel bs at (at + 1) _ _ (omega arith) e in
        let is = condition_there bs (at + 1) c rest (fits_four _ formed.0) (fits_four _ formed.1) p0.1 in (
          ap (λ (x : Condition). record { letter = 0; value = false; condition = x }) is,
          masks_fit 5 c is formed,
        )
