use Rattle.std.proofs.Common.{◌≤◌, length, IfOk, Ok, Err, sym, ap, ◌∙◌, subst, arith}
use Rattle.std.proofs.lemmas.Result.{err_from_is_err_and}
use Rattle.plant.proofs.Limits.{few_states}
use Rattle.draft.specs.Outcome.{WentThrough}
use Rattle.rule_file.specs.Outcome.{Written}
use Rattle.archive.specs.Outcome.{DraftedFile}
use Rattle.archive.proofs.Drafts.{answered, drafted_err, drafted_rules, written_ok, written_err}
use Rattle.archive.proofs.drafting.draft_in.Goals as goal

pub slice_bounds-draft-end : goal.slice_bounds-draft-end
slice_bounds-draft-end g c =
    let few = few_states (g.P.Plant.meaning c.args.plant.now) (g.P.Plant.sound c.args.plant.now) in
    omega arith

pub returns-in_err-count : goal.returns-in_err-count
returns-in_err-count g c =
    let m = g.P.Plant.meaning c.args.plant.now in
    let within = g.P.Plant.sound c.args.plant.now in
    let file = c.args.file.now in
    let list = c.args.list.now in
    let p = err_from_is_err_and c.from_residual.result c.from_residual.ensures.1 in
    let is = p.1 ∙ ap Err p.2 in
    record {
      outcome = subst (λ x. DraftedFile m file file x) (sym is)
          (drafted_err m c.draft.new.rows list c.draft.new.rules file c.in_err-count.field-0.0 (answered m within c.states-states.result c.args.rows.now c.draft.new.rows list c.draft.new.rules (Err c.in_err-count.field-0.0) c.states-states.ensures c.requires.0 c.requires.1 c.in_err-count.ensures.outcome));
      within = subst (λ x. IfOk x (λ k. k ≤ length file)) (sym is) tt;
    }

pub returns-in_err-write_rules : goal.returns-in_err-write_rules
returns-in_err-write_rules g c =
    let m = g.P.Plant.meaning c.args.plant.now in
    let within = g.P.Plant.sound c.args.plant.now in
    let file = c.args.file.now in
    let file' = c.write_rules.new.file in
    let list = c.args.list.now in
    let list' = c.draft.new.rules in
    let n = c.in_ok-count.count in
    let f = c.in_err-write_rules.field-0.0 in
    let through : WentThrough m c.draft.new.rows list list' n = answered m within c.states-states.result c.args.rows.now c.draft.new.rows list list' (Ok n) c.states-states.ensures c.requires.0 c.requires.1 c.in_ok-count.ensures.outcome in
    let same = drafted_rules m c.draft.new.rows list list' n through in
    let p = err_from_is_err_and c.from_residual-in_err-write_rules.result c.from_residual-in_err-write_rules.ensures.1 in
    let is = p.1 ∙ ap Err p.2 in
    record {
      outcome = subst (λ x. DraftedFile m file file' x) (sym is) (written_err m through.hope file file' f (subst (λ rs. Written rs file file' (Err f)) same c.in_err-write_rules.ensures.outcome));
      within = subst (λ x. IfOk x (λ k. k ≤ length file')) (sym is) tt;
    }

pub returns : goal.returns
returns g c =
    let m = g.P.Plant.meaning c.args.plant.now in
    let within = g.P.Plant.sound c.args.plant.now in
    let file = c.args.file.now in
    let file' = c.write_rules.new.file in
    let list = c.args.list.now in
    let list' = c.draft.new.rules in
    let n = c.in_ok-count.count in
    let k = c.in_ok-write_rules.field-0 in
    let through : WentThrough m c.draft.new.rows list list' n = answered m within c.states-states.result c.args.rows.now c.draft.new.rows list list' (Ok n) c.states-states.ensures c.requires.0 c.requires.1 c.in_ok-count.ensures.outcome in
    let same = drafted_rules m c.draft.new.rows list list' n through in
    record {
      outcome = written_ok m through.hope file file' k (subst (λ rs. Written rs file file' (Ok k)) same c.in_ok-write_rules.ensures.outcome);
      within = c.in_ok-write_rules.ensures.within;
    }
