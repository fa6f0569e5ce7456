use Rattle.std.proofs.Common.{ℕ, List, sym, subst₂, arith}
use Rattle.filling.specs.Adding.{Added}
use Rattle.filling.proofs.Adding.{added_none}
use Rattle.rules.specs.Listing.{rule_at}
use Rattle.rules.specs.declared.Rule.{Rule}
use Rattle.rules.proofs.Listing.{prefixes_length}
use Rattle.draft.proofs.Writing.{added_next}
use Rattle.draft.proofs.listing.Listed.write_line.Goals as goal
use Rattle.draft.proofs.listing.Listed.write_line.Goals.{in-Some, in_default}

pub put-requires : goal.put-requires
put-requires c =
    let listed = c.args.self.now in
    let few = prefixes_length listed.sizes.lines listed.row listed.state c.args.line c.loop-prefix.prefix in
    omega arith

pub loop-prefix-preserved : goal.loop-prefix-preserved
loop-prefix-preserved c =
    let listed = c.args.self.now in
    let parts : ℕ → List Rule = rule_at listed.sizes.lines listed.row listed.state c.args.line in
    let p = c.loop-prefix.prefix in
    let here : Added c.loop-prefix.rules c.match-standing_rule.rules (parts p) =
    elim c.match-standing_rule.branch [
      | in-Some w ↦ subst₂ (λ after xs. Added c.loop-prefix.rules after xs) (sym w.rules-is) w.in-Some.ensures w.put.ensures
      | in_default w ↦ subst₂ (λ after xs. Added c.loop-prefix.rules after xs) (sym w.rules-is) w.in_default.ensures (added_none c.loop-prefix.rules)
    ] in
    added_next parts p c.loop-prefix.invariant here
