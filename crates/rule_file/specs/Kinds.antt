-- The code of each kind of record of a rule file. Assumes nothing.
use Rattle.std.specs.Prelude.{ℕ}
use Rattle.rule_file.specs.Encoding.{rule_code, end_code}
use Rattle.rule_file.specs.declared.kind.RuleFileKind.{RuleFileKind}
use Rattle.rule_file.specs.declared.kind.RuleFileKind.TheVariants.{Rule, End}

abbrev pub code_of : RuleFileKind → ℕ
code_of Rule = rule_code
code_of End = end_code
