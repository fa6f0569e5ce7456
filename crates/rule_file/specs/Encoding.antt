-- A list of rules as bytes. Assumes nothing.
use Rattle.std.specs.Prelude.{ℕ, cond, List, [], ◌∷◌, ◌++◌}
use Rattle.std.specs.List.{flat_map}
use Rattle.records.specs.declared.among.Kind.{Kind}
use Rattle.rules.specs.declared.Rule.{Rule}

-- the kind of a rule's record (21 hex)
abbrev pub rule_code : ℕ
rule_code = 33

-- the kind of the end record (2F hex)
abbrev pub end_code : ℕ
end_code = 47

-- a rule has a body of four bytes, the end none
abbrev pub rule_kinds : List Kind
rule_kinds = record { code = rule_code; body = 4 } ∷ (record { code = end_code; body = 0 } ∷ [])

-- the record of a rule: its kind, then state, line, prefix and value, a byte each
abbrev pub rule_bytes : Rule → List ℕ
rule_bytes r = rule_code ∷ (r.state ∷ (r.line ∷ (r.prefix ∷ (cond r.value 1 0 ∷ []))))

-- the records of rules, one after another
abbrev pub records_bytes : List Rule → List ℕ
records_bytes rs = flat_map rule_bytes rs

-- a rule file: the records of the rules in order, then the end
abbrev pub rules_bytes : List Rule → List ℕ
rules_bytes rs = records_bytes rs ++ (end_code ∷ [])
