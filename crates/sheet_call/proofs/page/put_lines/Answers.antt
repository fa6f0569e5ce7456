use Rattle.std.proofs.Common.{length, ap, arith}
use Rattle.draft.specs.Rows.{open_in}
use Rattle.draft.proofs.Writing.{added_next}
use Rattle.sheet_call.specs.Page.{state_line}
use Rattle.sheet_call.proofs.Lengths.{lines_length, line_room}
use Rattle.sheet_call.proofs.page.put_lines.Goals as goal

pub put_line-requires-clause-room : goal.put_line-requires-clause-room
put_line-requires-clause-room c =
    let s = c.loop-state.state in
    let size = ap length c.new-page.ensures.as_before in
    let short = lines_length c.args.settings (open_in c.args.rows.now) s (omega arith) in
    let room = line_room c.args.settings s c.loop-state.page.filled (omega arith) (omega arith) (omega arith) in
    omega arith

pub loop-state-preserved : goal.loop-state-preserved
loop-state-preserved c =
    added_next (λ k. state_line c.args.settings k (open_in c.args.rows.now k)) c.loop-state.state c.loop-state.invariant c.put_line.ensures
