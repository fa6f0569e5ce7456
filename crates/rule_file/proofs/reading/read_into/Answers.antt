use Rattle.std.proofs.Common.{Ok, Err, sym, ap, ◌∙◌, subst}
use Rattle.std.proofs.lemmas.Result.{err_from_is_err_and}
use Rattle.rule_file.specs.Outcome.{Read}
use Rattle.rule_file.proofs.Outcomes.{read_refused, read_counted}
use Rattle.rule_file.proofs.reading.read_into.Goals as goal

pub returns-in_err-count : goal.returns-in_err-count
returns-in_err-count c =
    let b = c.args.sizes.state_bits in
    let n = c.args.sizes.lines in
    let bytes = c.args.bytes.now in
    let list = c.args.list.now in
    let p = err_from_is_err_and c.from_residual.result c.from_residual.ensures.1 in
    subst (λ x. Read b n bytes list list x) (sym (p.1 ∙ ap Err p.2)) (read_refused b n bytes list c.args.sizes.fit c.in_err-count.field-0.0 c.in_err-count.ensures)

pub fill-requires : goal.fill-requires
fill-requires c =
    let b = c.args.sizes.state_bits in
    let n = c.args.sizes.lines in
    let w = read_counted b n c.args.bytes.now c.args.list.now c.args.sizes.fit c.in_ok-count.count c.in_ok-count.ensures in
    record { few_bytes = w.few_bytes; few = w.few }

pub returns : goal.returns
returns c =
    let b = c.args.sizes.state_bits in
    let n = c.args.sizes.lines in
    let bytes = c.args.bytes.now in
    let list = c.args.list.now in
    let w = read_counted b n bytes list c.args.sizes.fit c.in_ok-count.count c.in_ok-count.ensures in
    subst (λ xs. Read b n bytes list xs (Ok c.in_ok-count.count)) (sym c.fill.ensures) w.fills
