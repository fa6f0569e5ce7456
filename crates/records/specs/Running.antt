-- Going through a file record by record. Assumes nothing.
use Rattle.std.specs.Prelude.{ℕ, zero, suc, cond, List, length, Ok, Err, Result, ◌==◌, nat_lt}
use Rattle.records.specs.declared.BytesFault.{BytesFault}
use Rattle.records.specs.declared.BytesFault.TheVariants.{AfterEnd}
use Rattle.records.specs.Reading.{Record}

-- what comes of one record: all is over, with this answer, or it goes on in this state at this offset
pub data Next (S R : Type 0) : Type 0 where
  over : R → Next S R
  onward : S → ℕ → Next S R

-- what comes of it and of the records after it
abbrev pub and_then : {S R : Type 0} → (S → ℕ → R) → Next S R → R
and_then later (over r) = r
and_then later (onward s at) = later s at

-- from a state, record by record from an offset on, so many records at most; `cut` is the answer where they do not suffice
abbrev pub run_records : {S R : Type 0} → (S → ℕ → Next S R) → (S → ℕ → R) → ℕ → S → ℕ → R
run_records step cut zero s at = cut s at
run_records step cut (suc f) s at = and_then (λ t end. run_records step cut f t end) (step s at)

-- the record at an offset, if there is one: the end record, after which nothing stands, or another
abbrev pub by_record : {S R : Type 0} → (BytesFault → R) → R → (Record → Next S R) → List ℕ → ℕ → Result Record BytesFault → Next S R
by_record fault closed other bytes end_code (Err f) = over (fault f)
by_record fault closed other bytes end_code (Ok r) =
    cond (r.code == end_code)
    (cond (nat_lt r.end (length bytes)) (over (fault (AfterEnd r.end))) (over closed))
    (other r)
