use Rattle.std.proofs.Common.{◌≡◌, ℕ, ◌+◌, ◌-◌, ◌≤◌, ◌⊎◌, length}
use Rattle.plan.specs.Judging.{judge_from}
use Rattle.plan.specs.Kept.{FirstStorable, seen_of}
use Rattle.plan.proofs.reading.read_records.Given as goal

-- what is left to read decides, with enough steps for the bytes left; either nothing was read yet, or the first record had to be stored
abbrev pub invariant-loop-found : goal.invariant-loop-found
invariant-loop-found l =
    ((f : ℕ) × (length l.bytes ≤ l.at + f) × (judge_from f l.bytes (seen_of l.reading) l.at ≡ judge_from (length l.bytes) l.bytes (seen_of l.initial.reading) l.start))
    × (((l.at ≡ l.start) × (seen_of l.reading ≡ seen_of l.initial.reading)) ⊎ FirstStorable (seen_of l.initial.reading) l.bytes l.start)

abbrev pub decreases-loop-found : goal.decreases-loop-found
decreases-loop-found l = length l.bytes - l.at
