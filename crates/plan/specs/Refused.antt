-- Which bytes are refused, with which fault and place. Assumes nothing.
use Rattle.std.specs.Prelude.{◌≡◌, ℕ, ◌+◌, ◌<◌, ◌≤◌, ◌⊎◌, List, [], ◌∷◌, ◌++◌, length, Some, None, Ok, Err, Result, ◌≢◌}
use mathlib.Core.List.{Memᴰ}
use Rattle.std.specs.List.{flat_map}
use Rattle.records.specs.Reading.{body_length}
use Rattle.records.specs.declared.BytesFault.TheVariants.{Unfinished, UnknownKind, AfterEnd}
use Rattle.plan.specs.Admitted.{Clash}
use Rattle.plan.specs.Depends.{Depends, LoopFree}
use Rattle.plan.specs.Held.{parts_of}
use Rattle.plan.specs.Judging.{most_clauses, plan_kinds}
use Rattle.plan.specs.Kept.{AsExpected}
use Rattle.plan.specs.Machine.{Parts}
use Rattle.plan.specs.Written.{Item, Written, Agreeing, Formed, InOrder, Limits, WellWritten, front, plan_bytes, item_bytes, parts_from, start_clause, start_of, next_of, auxiliary_of}
use Rattle.plan.specs.Written.Item.{start, next, auxiliary, ban}
use Rattle.plan.specs.declared.clause.Clause.{Clause}
use Rattle.plan.specs.declared.fault.PlanFault.{PlanFault}
use Rattle.plan.specs.declared.fault.PlanFault.TheVariants.{Bytes, HeadMisplaced, SizeLimits, TooManyClauses, Malformed, Loop, Clash as ClashFault, Memory}
use Rattle.plan.specs.declared.plan.Plan.{Plan}

-- the clause clashes with one of the list
abbrev pub ClashesIn : List Clause → Clause → Type 0
ClashesIn ds c = (d : Clause) × Memᴰ d ds × Clash c d

-- the item is a clause that clashes with one of its kind before it
abbrev pub ClashesWith : List Item → Item → Type 0
ClashesWith before (start l v) = ClashesIn (flat_map start_of before) (start_clause l v)
ClashesWith before (next c) = ClashesIn (flat_map next_of before) c
ClashesWith before (auxiliary c) = ClashesIn (flat_map auxiliary_of before) c
ClashesWith before (ban c) = ⊥

-- the lowest offset of a clause that clashes with one of its kind before it: a head has 4 bytes, then come the records before it
pub record FirstClash (w : Written) (offset : ℕ) : Type 0 where
  pub before : List Item
  pub item : Item
  pub after : List Item
  pub split : w.items ≡ before ++ (item ∷ after)
  pub place : offset ≡ 4 + length (flat_map item_bytes before)
  pub clashes : ClashesWith before item
  pub first : Agreeing before

-- the lowest auxiliary that depends on itself
pub record FirstLoop (w : Written) (l : ℕ) : Type 0 where
  pub auxiliary : (w.bits + w.lines ≤ l) × (l < w.bits + w.lines + w.auxiliaries)
  pub depends : Depends (flat_map auxiliary_of w.items) l l
  pub lowest : (k : ℕ) → k < l → Depends (flat_map auxiliary_of w.items) k k → ⊥

-- the head and the records of some well-formed items stand before the offset, and the rest from there on
pub record ReadTo (bytes : List ℕ) (w : Written) (offset : ℕ) (rest : List ℕ) : Type 0 where
  pub well_written : WellWritten w
  pub bytes_are : bytes ≡ front w ++ rest
  pub place : offset ≡ length (front w)

-- a record should begin at the offset, with what is left: the first one, or one after the head and some well-formed items
abbrev pub NextAt : List ℕ → ℕ → List ℕ → Type 0
NextAt bytes offset rest = ((offset ≡ 0) × (bytes ≡ rest)) ⊎ ((w : Written) × ReadTo bytes w offset rest)

-- records of this kind have a body of this length
abbrev pub Whole : ℕ → List ℕ → Type 0
Whole code body = body_length plan_kinds code ≡ Some (length body)

-- the kind of a clause or ban
abbrev pub ClauseKind : ℕ → Type 0
ClauseKind code = (2 ≤ code) × (code ≤ 5)

-- the bytes have this fault, at this place
pub data Refused (bytes : List ℕ) : PlanFault → Type 0 where
  -- 1: no byte is there where a record should begin
  no_byte : (o : ℕ) → NextAt bytes o [] → Refused bytes (Bytes (Unfinished o))
  -- 1: the input ends in the body of a record
  cut_short : (o code n : ℕ) (part : List ℕ) → NextAt bytes o (code ∷ part) → body_length plan_kinds code ≡ Some n → length part < n → Refused bytes (Bytes (Unfinished o))
  -- 2: the kind is unknown
  unknown : (o code : ℕ) (rest : List ℕ) → NextAt bytes o (code ∷ rest) → body_length plan_kinds code ≡ None → Refused bytes (Bytes (UnknownKind o))
  -- 3: the first record is whole, and no head
  no_head : (code : ℕ) (body rest : List ℕ) → bytes ≡ code ∷ (body ++ rest) → Whole code body → (code ≢ 1) → Refused bytes (HeadMisplaced 0)
  -- 3: a later record is a head
  second_head : (w : Written) (o : ℕ) (body rest : List ℕ) → ReadTo bytes w o (1 ∷ (body ++ rest)) → Whole 1 body → Refused bytes (HeadMisplaced o)
  -- 4: a size is out of its limits
  sizes : (b n m : ℕ) (rest : List ℕ) → bytes ≡ 1 ∷ (b ∷ (n ∷ (m ∷ rest))) → (Limits b n m → ⊥) → Refused bytes SizeLimits
  -- 5: one clause or ban more than there may be
  too_many : (w : Written) (o code : ℕ) (body rest : List ℕ) → ReadTo bytes w o (code ∷ (body ++ rest)) → ClauseKind code → Whole code body → length w.items ≡ most_clauses → Refused bytes (TooManyClauses o)
  -- 6: a whole record of a clause or ban that is not the record of any well-formed one
  malformed : (w : Written) (o code : ℕ) (body rest : List ℕ) → ReadTo bytes w o (code ∷ (body ++ rest)) → ClauseKind code → Whole code body → length w.items < most_clauses
      → ((i : Item) → Formed w.bits w.lines w.auxiliaries i → item_bytes i ≢ code ∷ body) → Refused bytes (Malformed o)
  -- 7: a byte after the end
  after_end : (w : Written) (x : ℕ) (rest : List ℕ) → WellWritten w → bytes ≡ plan_bytes w ++ (x ∷ rest) → Refused bytes (Bytes (AfterEnd (length (plan_bytes w))))
  -- 8: the lowest auxiliary that depends on itself
  loop : (w : Written) (l : ℕ) → WellWritten w → bytes ≡ plan_bytes w → FirstLoop w l → Refused bytes (Loop l)
  -- 9: the lowest offset of a clause that clashes with one before it
  clash : (w : Written) (o : ℕ) → WellWritten w → bytes ≡ plan_bytes w → LoopFree (flat_map auxiliary_of w.items) → FirstClash w o → Refused bytes (ClashFault o)

-- there is something to store: the bytes begin with a head and at least one clause or ban, well-formed
abbrev pub Stores : List ℕ → Type 0
Stores bytes = (w : Written) × (rest : List ℕ) × WellWritten w × (bytes ≡ front w ++ rest) × (0 < length w.items)

-- admitted: the bytes are those of a plan in order, and this is what it holds; refused: the bytes have this fault, or memory was wanting for what there is to store
abbrev pub Told : List ℕ → Result Plan PlanFault → Type 0
Told bytes (Ok x) = (w : Written) × (bytes ≡ plan_bytes w) × InOrder w × (parts_of x ≡ parts_from w)
Told bytes (Err f) = ((f ≡ Memory) × Stores bytes) ⊎ Refused bytes f

-- and the other way round: a plan in order is admitted, and bytes with a fault are refused with it, unless memory was wanting
pub record Exactly (bytes : List ℕ) (r : Result Plan PlanFault) : Type 0 where
  pub told : Told bytes r
  pub admits : (w : Written) → bytes ≡ plan_bytes w → InOrder w → AsExpected (Ok (parts_from w)) parts_of r
  pub refuses : (f : PlanFault) → Refused bytes f → AsExpected {X = Plan} {Y = Parts} (Err f) parts_of r
