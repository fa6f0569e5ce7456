use Rattle.std.proofs.Common.{◌≡◌, ◌-◌, replicate, take, Ok, Err, sym, ap, ◌∙◌, subst, arith}
use Rattle.std.proofs.lemmas.List.{length-replicate}
use Rattle.std.proofs.lemmas.Result.{err_from_is_err_and}
use Rattle.rules.specs.Limits.{most_rules}
use Rattle.reader.specs.declared.phase.Phase.TheVariants.{Closed}
use Rattle.rule_file.specs.Outcome.{Read}
use Rattle.log_file.specs.Outcome.{Ran}
use Rattle.archive.specs.Outcome.{Judged, RightByDraft}
use Rattle.archive.specs.declared.judging.Verdict.{Verdict}
use Rattle.archive.proofs.Verdicts.{judged_whole, judged_ok, turned_away, not_drafted}
use Rattle.archive.proofs.judging.verdict_by.Goals as goal

pub returns-in_err-count-clause-judged : goal.returns-in_err-count-clause-judged
returns-in_err-count-clause-judged g c =
    let m = g.P.Plant.meaning c.args.plant.now in
    let file = c.args.rules.now in
    let list = replicate most_rules c.default-list.result in
    let list' = c.read_rules.new.list in
    let f = c.in_err-count.field-0.0 in
    let p = err_from_is_err_and c.from_residual.result c.from_residual.ensures.1 in
    let is = p.1 ∙ ap Err p.2 in
    let read = subst (λ n. Read m.bits n file list list' (Err f)) c.lines.ensures (subst (λ b. Read b c.lines.result file list list' (Err f)) c.state_bits.ensures c.in_err-count.ensures) in
    subst (λ x. Judged m file c.args.log.now x) (sym is) (turned_away m (g.P.Plant.sound c.args.plant.now) file c.args.log.now list list' (length-replicate most_rules c.default-list.result) f read)

pub returns-in_err-count-clause-right : goal.returns-in_err-count-clause-right
returns-in_err-count-clause-right g c =
    let m = g.P.Plant.meaning c.args.plant.now in
    let file = c.args.rules.now in
    let list = replicate most_rules c.default-list.result in
    let list' = c.read_rules.new.list in
    let f = c.in_err-count.field-0.0 in
    let p = err_from_is_err_and c.from_residual.result c.from_residual.ensures.1 in
    let is = p.1 ∙ ap Err p.2 in
    let read = subst (λ n. Read m.bits n file list list' (Err f)) c.lines.ensures (subst (λ b. Read b c.lines.result file list list' (Err f)) c.state_bits.ensures c.in_err-count.ensures) in
    subst (λ x. RightByDraft m file c.args.log.now x) (sym is) (not_drafted m (g.P.Plant.sound c.args.plant.now) file c.args.log.now list list' (length-replicate most_rules c.default-list.result) f read)

pub returns-clause-right : goal.returns-clause-right
returns-clause-right g c =
    let m = g.P.Plant.meaning c.args.plant.now in
    let within = g.P.Plant.sound c.args.plant.now in
    let file = c.args.rules.now in
    let log = c.args.log.now in
    let list = replicate most_rules c.default-list.result in
    let list' = c.read_rules.new.list in
    let k = c.in_ok-count.count in
    let read : Read m.bits m.lines file list list' (Ok k) =
    subst (λ n. Read m.bits n file list list' (Ok k)) c.lines.ensures (subst (λ b. Read b c.lines.result file list list' (Ok k)) c.state_bits.ensures c.in_ok-count.ensures) in
    let v : Verdict = record { outcome = c.run_log-outcome.result; phase = c.phase-phase.result } in
    let exact : k - 0 ≡ k = omega arith in
    let ran : Ran m (take (k - 0) list') Closed c.phase-phase.result log c.run_log-outcome.result =
    subst (λ p. Ran m (take (k - 0) list') Closed p log c.run_log-outcome.result) (sym c.phase-phase.ensures)
    (subst (λ p. Ran m (take (k - 0) list') p c.run_log-outcome.new.reader.phase log c.run_log-outcome.result) c.new-reader.ensures c.run_log-outcome.ensures) in
    judged_ok m within file log v (judged_whole m within file log list list' k (take (k - 0) list') v read.in_words (ap (λ i. take i list') exact) ran)
