use Rattle.std.proofs.Common.{take}
use Rattle.filling.specs.Adding.{Added}
use Rattle.rule_file.specs.Encoding.{records_bytes}
use Rattle.rule_file.proofs.writing.put_rules.Given as goal

-- the records of the rules before this one are written
abbrev pub invariant-loop-rule : goal.invariant-loop-rule
invariant-loop-rule l = Added l.initial.filling l.filling (records_bytes (take l.rule-index l.list))
