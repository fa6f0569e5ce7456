-- A record that was found, by the code of its kind. Assumes nothing.
use Rattle.std.specs.Prelude.{ℕ, Ok, Err, Result}
use Rattle.records.specs.Reading.{Record}
use Rattle.records.specs.declared.BytesFault.{BytesFault}
use Rattle.records.specs.declared.Record.{Record as Typed}

-- the record, with the code in place of the kind
abbrev pub coded : {K : Type 0} → (K → ℕ) → Typed K → Record
coded code r = record { offset = r.offset; code = code r.kind; end = r.end }

-- what was found, where there is a record
abbrev pub by_code : {K : Type 0} → (K → ℕ) → Result (Typed K) BytesFault → Result Record BytesFault
by_code code (Ok r) = Ok (coded code r)
by_code code (Err f) = Err f
