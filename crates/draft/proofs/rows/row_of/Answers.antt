use Rattle.std.proofs.Common.{sym}
use Rattle.draft.proofs.Largest.{down_row}
use Rattle.draft.proofs.rows.row_of.Goals as goal

pub returns-then-not-flagged-state : goal.returns-then-not-flagged-state
returns-then-not-flagged-state g c =
    let plant = c.args.flagged.now.plant.now in
    sym (down_row (g.P.Plant.meaning plant) (g.P.Plant.sound plant) c.args.flagged.now.held.now c.requires.flags c.args.state c.if-not-flagged-state.true)
