-- How a rule reads. Assumes nothing.
use Rattle.std.specs.Prelude.{ℕ, cond, List, ◌++◌, codes, decimal}
use Rattle.rules.specs.declared.Rule.{Rule}

-- the four parts of the rule, each behind its name; a value is 1 or 0
abbrev pub rule_line : Rule → List ℕ
rule_line r = codes "state " ++ (decimal r.state ++ (codes " line " ++ (decimal r.line ++ (codes " prefix " ++ (decimal r.prefix ++ (codes " value " ++ decimal (cond r.value 1 0)))))))
