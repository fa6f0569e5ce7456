use Rattle.std.proofs.Common.{arith}
use Rattle.std.proofs.lemmas.List.FromFn.{fill_by_all}
use Rattle.plant.specs.Meaning.{states}
use Rattle.draft.specs.Rows.{row_from}
use Rattle.draft.proofs.rows.write_rows.Goals as goal

pub returns : goal.returns
returns g c =
    let m = g.P.Plant.meaning c.args.flagged.now.plant.now in
    fill_by_all (row_from m c.args.flagged.now.held.now) c.loop-state.rows (states m) 0 (omega arith) (λ k lt. c.loop-state.invariant k (omega arith))
