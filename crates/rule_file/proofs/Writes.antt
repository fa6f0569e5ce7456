-- Writing a rule file, one record at a time. Assumes nothing.
use Rattle.std.proofs.Common.{◌≡◌, ℕ, ◌+◌, ◌*◌, ◌<◌, ◌≤◌, List, [], ◌++◌, length, get_or, take, sym, ap, ◌∙◌}
use Rattle.std.proofs.lemmas.List.{flat_map_more, length-take-le, take_more}
use Rattle.rules.specs.declared.Rule.{Rule}
use Rattle.rule_file.specs.Encoding.{rule_bytes, records_bytes}
use Rattle.rule_file.proofs.Records.{records_length}

-- how long the records of the first i rules are
pub taken_length : (list : List Rule) (i : ℕ) → i ≤ length list → length (records_bytes (take i list)) ≡ 5 * i
taken_length list i le = records_length (take i list) ∙ ap (λ k. 5 * k) (length-take-le i list le)

-- the record of the next rule
pub taken_more : (list : List Rule) (i : ℕ) (d : Rule) → i < length list → records_bytes (take i list) ++ rule_bytes (get_or list i d) ≡ records_bytes (take (i + 1) list)
taken_more list i d lt = flat_map_more rule_bytes [] (take i list) (get_or list i d) ∙ ap records_bytes (sym (take_more list i d lt))
