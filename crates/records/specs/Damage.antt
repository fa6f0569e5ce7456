-- What is wrong with the bytes where a record should stand, in words. Assumes nothing.
use Rattle.std.specs.Prelude.{◌≡◌, ℕ, ◌+◌, ◌<◌, ◌⊎◌, List, [], ◌∷◌, length, Some, None}
use Rattle.records.specs.Reading.{body_length}
use Rattle.records.specs.declared.BytesFault.{BytesFault}
use Rattle.records.specs.declared.BytesFault.TheVariants.{Unfinished, UnknownKind, AfterEnd}
use Rattle.records.specs.declared.among.Kind.{Kind}

-- nothing is left, or a record of a known kind whose body is cut off
abbrev pub CutOff : List Kind → List ℕ → Type 0
CutOff kinds rest = (rest ≡ []) ⊎ ((code n : ℕ) × (body : List ℕ) × (rest ≡ code ∷ body) × (body_length kinds code ≡ Some n) × (length body < n))

-- `rest` stands at the offset where a record should begin: it is cut off, it begins with no known kind,
-- or it is the end record with a byte after it
abbrev pub Damaged : List Kind → ℕ → List ℕ → ℕ → BytesFault → Type 0
Damaged kinds end_code rest offset (Unfinished o) = (o ≡ offset) × CutOff kinds rest
Damaged kinds end_code rest offset (UnknownKind o) = (o ≡ offset) × ((code : ℕ) × (more : List ℕ) × (rest ≡ code ∷ more) × (body_length kinds code ≡ None))
Damaged kinds end_code rest offset (AfterEnd o) = (o ≡ offset + 1) × ((x : ℕ) × (more : List ℕ) × (rest ≡ end_code ∷ (x ∷ more)))
