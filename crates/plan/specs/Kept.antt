-- What the steps of reading do, beside want of memory. Assumes nothing.
use Rattle.std.specs.Prelude.{◌≡◌, ℕ, ◌≤◌, true, List, Ok, Err, Result}
use Rattle.records.specs.Reading.{Record, record_at}
use Rattle.plan.specs.Held.{parts_of}
use Rattle.plan.specs.Items.{byte, item_fits}
use Rattle.plan.specs.Judging.{Seen, none_yet, plan_kinds}
use Rattle.plan.specs.Machine.{Parts}
use Rattle.plan.specs.Sizes.{sizes_fit}
use Rattle.plan.specs.declared.fault.PlanFault.{PlanFault}
use Rattle.plan.specs.declared.fault.PlanFault.TheVariants.{Bytes, HeadMisplaced, SizeLimits, TooManyClauses, Malformed, Loop, Clash, Memory}
use Rattle.plan.specs.declared.partial.Reading.{Reading}

-- what a reading has seen
abbrev pub seen_of : Reading → Seen
seen_of x = record { parts = parts_of x.plan; count = x.count; clash_at = x.clash }

-- the fault is the expected one, or memory was wanting
abbrev pub Fails : {Y : Type 0} → Result Y PlanFault → PlanFault → Type 0
Fails expected (Bytes f) = expected ≡ Err (Bytes f)
Fails expected (HeadMisplaced o) = expected ≡ Err (HeadMisplaced o)
Fails expected SizeLimits = expected ≡ Err SizeLimits
Fails expected (TooManyClauses o) = expected ≡ Err (TooManyClauses o)
Fails expected (Malformed o) = expected ≡ Err (Malformed o)
Fails expected (Loop l) = expected ≡ Err (Loop l)
Fails expected (Clash o) = expected ≡ Err (Clash o)
Fails expected Memory = Unit {0}

-- the answer is the expected one, or memory was wanting
abbrev pub AsExpected : {X Y : Type 0} → Result Y PlanFault → (X → Y) → Result X PlanFault → Type 0
AsExpected expected of (Ok x) = expected ≡ Ok (of x)
AsExpected expected of (Err f) = Fails expected f

-- the records were read, and what is left to judge is the whole; or the fault is the expected one
abbrev pub ReadUp : Result Parts PlanFault → Result Parts PlanFault → Result (Unit {0}) PlanFault → Type 0
ReadUp expected whole (Ok _) = expected ≡ whole
ReadUp expected whole (Err f) = Fails expected f

-- want of memory is pleaded only where this holds
abbrev pub Pleads : Type 0 → PlanFault → Type 0
Pleads P (Bytes f) = Unit {0}
Pleads P (HeadMisplaced o) = Unit {0}
Pleads P SizeLimits = Unit {0}
Pleads P (TooManyClauses o) = Unit {0}
Pleads P (Malformed o) = Unit {0}
Pleads P (Loop l) = Unit {0}
Pleads P (Clash o) = Unit {0}
Pleads P Memory = P

abbrev pub Spared : {X : Type 0} → Type 0 → Result X PlanFault → Type 0
Spared P (Ok x) = Unit {0}
Spared P (Err f) = Pleads P f

-- a record that is in order, and so has to be stored
abbrev pub Storable : Seen → List ℕ → ℕ → ℕ → Type 0
Storable s bs offset code = (2 ≤ code) × (code ≤ 5) × (item_fits s.parts.bits s.parts.lines s.parts.auxiliaries bs offset code ≡ true)

-- the record at the offset is whole and has to be stored
abbrev pub FirstStorable : Seen → List ℕ → ℕ → Type 0
FirstStorable s bs start = (r : Record) × (record_at bs plan_kinds start ≡ Ok r) × Storable s bs r.offset r.code

-- a head in order stands first, and the record after it has to be stored
abbrev pub HasItem : List ℕ → Type 0
HasItem bs =
    (head : Record) × (record_at bs plan_kinds 0 ≡ Ok head) × (head.code ≡ 1)
    × (sizes_fit (byte bs 1) (byte bs 2) (byte bs 3) ≡ true) × FirstStorable (none_yet (byte bs 1) (byte bs 2) (byte bs 3)) bs head.end
