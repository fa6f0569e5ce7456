use Rattle.filling.specs.Adding.{Added}
use Rattle.draft.specs.Rows.{open_in}
use Rattle.sheet_call.specs.Page.{sheet_text}
use Rattle.sheet_call.proofs.page.put_lines.Given as goal

-- the lines of the states below this one are written
abbrev pub invariant-loop-state : goal.invariant-loop-state
invariant-loop-state l = Added l.initial.page l.page (sheet_text l.state l.settings (open_in l.rows))
