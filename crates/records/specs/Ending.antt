-- Whether anything stands after the end record. Assumes nothing.
use Rattle.std.specs.Prelude.{◌≡◌, ℕ, cond, List, length, Ok, Err, Result, nat_lt}
use Rattle.records.specs.declared.BytesFault.{BytesFault}
use Rattle.records.specs.declared.BytesFault.TheVariants.{AfterEnd}

-- a byte at the offset is one too many
abbrev pub Ended : List ℕ → ℕ → Result (Unit {0}) BytesFault → Type 0
Ended bytes offset r = r ≡ cond (nat_lt offset (length bytes)) (Err (AfterEnd offset)) (Ok tt)
