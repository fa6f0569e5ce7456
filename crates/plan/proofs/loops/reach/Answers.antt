use Rattle.std.proofs.Common.{◌≡◌, ℕ, suc, ◌+◌, ◌-◌, Bool, false, cond, eqb, sym, ap, ◌∙◌, arith}
use Rattle.std.proofs.lemmas.Bool.{ne_eqb}
use Rattle.plan.specs.Loops.{further, gathered}
use Rattle.plan.proofs.loops.reach.Goals as goal

pub loop-round-preserved : goal.loop-round-preserved
loop-round-preserved c =
    let cs = c.args.clauses.now in
    let found = c.loop-round.found in
    let left : ℕ = c.args.rounds - (c.loop-round.round + 1) in
    let split : c.args.rounds - c.loop-round.round ≡ suc left = omega arith in
    let more : eqb (gathered cs found found) found ≡ false = ap (λ x. eqb x found) (sym c.gather-more.ensures) ∙ ne_eqb _ _ c.if-more-found.false in
    ap (further cs left) c.gather-more.ensures ∙ sym (ap (λ n. further cs n found) split ∙ ap (λ (t : Bool). cond t found (further cs left (gathered cs found found))) more) ∙ c.loop-round.invariant
