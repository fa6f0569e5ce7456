use Rattle.std.proofs.Common.{Err, sym, ap, ◌∙◌, subst}
use Rattle.std.proofs.lemmas.Result.{err_from_is_err_and}
use Rattle.plan.specs.Held.{parts_of}
use Rattle.archive.specs.Outcome.{WholeChain}
use Rattle.archive.proofs.Verdicts.{chain_ok, chain_err}
use Rattle.archive.proofs.judging.verdict_on.Goals as goal

pub returns-in_err-verdict_by-clause-chain : goal.returns-in_err-verdict_by-clause-chain
returns-in_err-verdict_by-clause-chain c =
    let plan = c.args.plan.now in
    let file = c.args.rules.now in
    let log = c.args.log.now in
    let p = err_from_is_err_and c.from_residual-in_err-verdict_by.result c.from_residual-in_err-verdict_by.ensures.1 in
    let is = p.1 ∙ ap Err p.2 in
    subst (λ r. WholeChain plan file log r) (sym is) (chain_err plan file log (parts_of c.in_ok-plan.plan) c.in_ok-plan.ensures.judged c.in_err-verdict_by.field-0.0 c.in_err-verdict_by.ensures.right)

pub returns-clause-chain : goal.returns-clause-chain
returns-clause-chain c = chain_ok c.args.plan.now c.args.rules.now c.args.log.now (parts_of c.in_ok-plan.plan) c.in_ok-plan.ensures.judged c.in_ok-verdict_by.field-0 c.in_ok-verdict_by.ensures.right
