-- The number, place and layer of each fault of the bytes. Assumes nothing.
use Rattle.refusal.specs.declared.Layer.TheVariants.{Bytes}
use Rattle.refusal.specs.declared.Refusal.{Refusal}
use Rattle.refusal.specs.Shown.{refusal}
use Rattle.records.specs.declared.BytesFault.{BytesFault}
use Rattle.records.specs.declared.BytesFault.TheVariants.{Unfinished, UnknownKind, AfterEnd}

-- 1, 2 or 7, with the offset
abbrev pub bytes_refusal : BytesFault → Refusal
bytes_refusal (Unfinished offset) = refusal 1 offset Bytes
bytes_refusal (UnknownKind offset) = refusal 2 offset Bytes
bytes_refusal (AfterEnd offset) = refusal 7 offset Bytes
