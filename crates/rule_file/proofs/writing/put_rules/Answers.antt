use Rattle.std.proofs.Common.{◌≡◌, [], ◌∷◌, ◌++◌, length, take, drop, ap, ◌∙◌, subst, arith, rules}
use Rattle.std.proofs.lemmas.List.{take_all}
use Rattle.filling.specs.Adding.{Added}
use Rattle.filling.proofs.Adding.{added_none, added_more, added_first}
use Rattle.rule_file.specs.Encoding.{end_code, records_bytes, rules_bytes}
use Rattle.rule_file.proofs.Records.{file_length}
use Rattle.rule_file.proofs.Writes.{taken_length, taken_more}
use Rattle.rule_file.proofs.writing.put_rules.Goals as goal

pub loop-rule-init : goal.loop-rule-init
loop-rule-init c = added_none c.new-filling.result

pub put-requires : goal.put-requires
put-requires c =
    let size = ap length c.new-filling.ensures.as_before in
    let all = file_length c.args.list.now in
    let before = taken_length c.args.list.now c.loop-rule.rule-index (omega arith) in
    let one = ap length c.rule_record.ensures in
    omega arith

pub loop-rule-preserved : goal.loop-rule-preserved
loop-rule-preserved c =
    let list = c.args.list.now in
    let i = c.loop-rule.rule-index in
    subst (λ xs. Added c.new-filling.result c.put.new.places xs)
    (ap (λ r. records_bytes (take i list) ++ r) c.rule_record.ensures ∙ taken_more list i _ c.loop-rule-test.true)
    (added_more c.loop-rule.invariant c.put.ensures)

pub put-requires-2 : goal.put-requires-2
put-requires-2 c =
    let size = ap length c.new-filling.ensures.as_before in
    let all = file_length c.args.list.now in
    let before = taken_length c.args.list.now c.loop-rule.rule-index (omega arith) in
    omega arith

pub returns : goal.returns
returns c =
    let list = c.args.list.now in
    let written : c.put-2.new.places.places.now ≡ rules_bytes list ++ drop (length (rules_bytes list)) c.args.file.now =
    added_first c.args.file.now c.new-filling.ensures.as_before c.new-filling.ensures.none
    (subst (λ rs. Added c.new-filling.result c.put-2.new.places (records_bytes rs ++ (end_code ∷ []))) (take_all c.loop-rule.rule-index list c.loop-rule-test.false)
    (added_more c.loop-rule.invariant c.put-2.ensures)) in
    search rules
