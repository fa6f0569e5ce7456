use Rattle.std.proofs.Common.{◌≡◌}
use Rattle.std.specs.Slice.Iter.{chunks_exact_rest, chunks_exact_size}
use Rattle.rule_file.proofs.Filling.{FilledUpTo}
use Rattle.rule_file.proofs.reading.fill.Given as goal

-- the rules of the records before this one are written
abbrev pub invariant-loop-record : goal.invariant-loop-record
invariant-loop-record l =
    FilledUpTo l.bytes l.count l.initial.filling l.filling (chunks_exact_rest l.record-iterator) × (chunks_exact_size l.record-iterator ≡ 5)
