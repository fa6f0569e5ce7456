use Rattle.std.proofs.Common.{◌≡◌, ℕ, ◌<◌, get_or}
use Rattle.draft.specs.Rows.{row_from}
use Rattle.draft.proofs.rows.write_rows.Given as goal

-- the rows below this one are written
abbrev pub invariant-loop-state : goal.invariant-loop-state
invariant-loop-state g l = (k : ℕ) → k < l.state → get_or l.rows k 0 ≡ row_from (g.P.Plant.meaning l.flagged.plant.now) l.flagged.held.now k
