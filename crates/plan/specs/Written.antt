-- A plan as it is written down, and when it is in order. Assumes nothing.
use Rattle.std.specs.Prelude.{ℕ, ◌+◌, ◌/◌, ◌%◌, ◌^◌, ◌<◌, ◌≤◌, Bool, true, false, List, [], ◌∷◌, ◌++◌, length}
use mathlib.Core.List.{Memᴰ}
use Rattle.std.specs.List.{flat_map}
use Rattle.plant.specs.Sizes.{Limits as PlantLimits}
use Rattle.plant.specs.declared.condition.Condition.{Condition}
use Rattle.plan.specs.Admitted.{ClashFree}
use Rattle.plan.specs.Depends.{LoopFree}
use Rattle.plan.specs.Items.{always}
use Rattle.plan.specs.Judging.{most_clauses}
use Rattle.plan.specs.Machine.{Parts}
use Rattle.plan.specs.Sizes.{most_auxiliaries}
use Rattle.plan.specs.declared.clause.Clause.{Clause}

-- a clause or a ban: a start clause has a letter and a value, a ban only a condition
pub data Item : Type 0 where
  start : ℕ → Bool → Item
  next : Clause → Item
  auxiliary : Clause → Item
  ban : Condition → Item

-- a plan on paper: its sizes, and its clauses and bans in file order
pub record Written : Type 0 where
  pub bits : ℕ
  pub lines : ℕ
  pub auxiliaries : ℕ
  pub items : List Item

-- a mask is four bytes, most significant first
abbrev pub mask_bytes : ℕ → List ℕ
mask_bytes x = x / 16777216 % 256 ∷ (x / 65536 % 256 ∷ (x / 256 % 256 ∷ (x % 256 ∷ [])))

abbrev pub value_byte : Bool → ℕ
value_byte true = 1
value_byte false = 0

-- the ones mask, then the zeros mask
abbrev pub condition_bytes : Condition → List ℕ
condition_bytes c = mask_bytes c.ones ++ mask_bytes c.zeros

-- letter, value, condition
abbrev pub clause_bytes : Clause → List ℕ
clause_bytes c = c.letter ∷ (value_byte c.value ∷ condition_bytes c.condition)

-- the record of an item: its kind, then its body
abbrev pub item_bytes : Item → List ℕ
item_bytes (start l v) = 2 ∷ (l ∷ (value_byte v ∷ []))
item_bytes (next c) = 3 ∷ clause_bytes c
item_bytes (auxiliary c) = 4 ∷ clause_bytes c
item_bytes (ban c) = 5 ∷ condition_bytes c

-- the head, then the records of the items
abbrev pub front : Written → List ℕ
front w = 1 ∷ (w.bits ∷ (w.lines ∷ (w.auxiliaries ∷ flat_map item_bytes w.items)))

-- the whole file: the end comes last
abbrev pub plan_bytes : Written → List ℕ
plan_bytes w = front w ++ (15 ∷ [])

-- a start clause counts as always true
abbrev pub start_clause : ℕ → Bool → Clause
start_clause l v = record { letter = l; value = v; condition = always }

-- the start clause that the item is, if it is one; and so for the other kinds
abbrev pub start_of : Item → List Clause
start_of (start l v) = start_clause l v ∷ []
start_of (next c) = []
start_of (auxiliary c) = []
start_of (ban c) = []

abbrev pub next_of : Item → List Clause
next_of (start l v) = []
next_of (next c) = c ∷ []
next_of (auxiliary c) = []
next_of (ban c) = []

abbrev pub auxiliary_of : Item → List Clause
auxiliary_of (start l v) = []
auxiliary_of (next c) = []
auxiliary_of (auxiliary c) = c ∷ []
auxiliary_of (ban c) = []

abbrev pub ban_of : Item → List Condition
ban_of (start l v) = []
ban_of (next c) = []
ban_of (auxiliary c) = []
ban_of (ban c) = c ∷ []

-- what the plan holds: each kind in file order
abbrev pub parts_from : Written → Parts
parts_from w = record {
  bits = w.bits;
  lines = w.lines;
  auxiliaries = w.auxiliaries;
  starts = flat_map start_of w.items;
  nexts = flat_map next_of w.items;
  auxes = flat_map auxiliary_of w.items;
  bans = flat_map ban_of w.items;
}

-- the sizes are within their limits
abbrev pub Limits : ℕ → ℕ → ℕ → Type 0
Limits b n m = PlantLimits b n × (m ≤ most_auxiliaries)

-- no mask of the condition has a letter beyond the k there are
abbrev pub MasksBelow : ℕ → Condition → Type 0
MasksBelow k c = (c.ones < 2 ^ k) × (c.zeros < 2 ^ k)

-- letters of the right sort, masks within the letters
abbrev pub Formed : ℕ → ℕ → ℕ → Item → Type 0
Formed b n m (start l v) = l < b
Formed b n m (next c) = (c.letter < b) × MasksBelow (b + n + m) c.condition
Formed b n m (auxiliary c) = (b + n ≤ c.letter) × (c.letter < b + n + m) × MasksBelow (b + n + m) c.condition
Formed b n m (ban c) = MasksBelow (b + n + m) c

-- sizes within their limits, not too many items, each well-formed
pub record WellWritten (w : Written) : Type 0 where
  pub limits : Limits w.bits w.lines w.auxiliaries
  pub few : length w.items ≤ most_clauses
  pub formed : (i : Item) → Memᴰ i w.items → Formed w.bits w.lines w.auxiliaries i

-- no two clauses of one kind clash
pub record Agreeing (items : List Item) : Type 0 where
  pub starts : ClashFree (flat_map start_of items)
  pub nexts : ClashFree (flat_map next_of items)
  pub auxes : ClashFree (flat_map auxiliary_of items)

-- a plan in order: well-formed, no letter depends on itself, no two clauses of one kind clash
pub record InOrder (w : Written) : Type 0 where
  pub well_written : WellWritten w
  pub loop_free : LoopFree (flat_map auxiliary_of w.items)
  pub agreeing : Agreeing w.items
