use Rattle.std.proofs.Common.{◌≡◌, ℕ, ◌+◌, ◌-◌, ◌≤◌, List, [], length}
use Rattle.rules.specs.declared.Rule.{Rule}
use Rattle.rule_file.specs.Order.{last_rule}
use Rattle.rule_file.specs.Reading.{read_records}
use Rattle.rule_file.proofs.reading.check_records.Given as goal

-- some rules were read; what is left decides, with enough records for the bytes left
abbrev pub invariant-loop-found : goal.invariant-loop-found
invariant-loop-found l =
    (rs : List Rule) × (f : ℕ) × (length l.bytes ≤ l.at + f) × (l.last ≡ last_rule rs) × (l.count ≡ length rs)
    × (read_records l.sizes.state_bits l.sizes.lines l.room l.bytes f rs l.at ≡ read_records l.sizes.state_bits l.sizes.lines l.room l.bytes (length l.bytes) [] 0)

abbrev pub decreases-loop-found : goal.decreases-loop-found
decreases-loop-found l = length l.bytes - l.at
