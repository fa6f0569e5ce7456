-- What record stands at an offset. Assumes nothing.
use Rattle.std.specs.Prelude.{ℕ, ◌+◌, ◌-◌, cond, List, [], ◌∷◌, length, Some, None, Ok, Err, Option, Result, option_map, ◌==◌, nat_lt, slice_index}
use Rattle.records.specs.declared.BytesFault.{BytesFault}
use Rattle.records.specs.declared.BytesFault.TheVariants.{Unfinished, UnknownKind}
use Rattle.records.specs.declared.among.Kind.{Kind}

-- a record by the code of its kind: it begins at the offset, and its body lies before the end
pub record Record : Type 0 where
  pub offset : ℕ
  pub code : ℕ
  pub end : ℕ

-- how many bytes the body of the kind has, where it is known
abbrev pub body_length : List Kind → ℕ → Option ℕ
body_length [] code = None
body_length (k ∷ ks) code = cond (k.code == code) (Some k.body) (body_length ks code)

-- the code itself, where it is known
abbrev pub known : List Kind → ℕ → Option ℕ
known kinds code = option_map (λ n. code) (body_length kinds code)

-- a record of this code at the offset, whose body has n bytes, where the input has them
abbrev pub whole_record : List ℕ → ℕ → ℕ → Option ℕ → Result Record BytesFault
whole_record bytes offset code None = Err (UnknownKind offset)
whole_record bytes offset code (Some n) = cond (nat_lt (length bytes - offset - 1) n) (Err (Unfinished offset)) (Ok (record { offset = offset; code = code; end = offset + 1 + n }))

-- a byte is there, its kind is known, its body is complete
abbrev pub record_at : List ℕ → List Kind → ℕ → Result Record BytesFault
record_at bytes kinds offset = cond (nat_lt offset (length bytes)) (whole_record bytes offset (slice_index bytes offset) (body_length kinds (slice_index bytes offset))) (Err (Unfinished offset))
