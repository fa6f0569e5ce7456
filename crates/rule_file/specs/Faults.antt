-- The number, place and layer of each fault of a rule file. Assumes nothing.
use Rattle.refusal.specs.declared.Layer.TheVariants.{Rules}
use Rattle.refusal.specs.declared.Refusal.{Refusal}
use Rattle.refusal.specs.Shown.{refusal}
use Rattle.records.specs.Faults.{bytes_refusal}
use Rattle.rule_file.specs.declared.fault.RuleFileFault.{RuleFileFault}
use Rattle.rule_file.specs.declared.fault.RuleFileFault.TheVariants.{Bytes, SizeLimits, Misplaced, ListFull, FileRoom}

-- a fault of the bytes keeps its number, place and layer; else 4, 14, 11 and 11
abbrev pub rule_file_refusal : RuleFileFault → Refusal
rule_file_refusal (Bytes f) = bytes_refusal f
rule_file_refusal SizeLimits = refusal 4 0 Rules
rule_file_refusal (Misplaced offset) = refusal 14 offset Rules
rule_file_refusal (ListFull offset) = refusal 11 offset Rules
rule_file_refusal (FileRoom needed) = refusal 11 needed Rules
