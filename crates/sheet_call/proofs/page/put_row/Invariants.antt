use Rattle.plant.specs.Bits.{bit}
use Rattle.filling.specs.Adding.{Added}
use Rattle.sheet_call.specs.Page.{digits_of}
use Rattle.sheet_call.proofs.page.put_row.Given as goal

-- the digits of the settings below this one are written
abbrev pub invariant-loop-setting : goal.invariant-loop-setting
invariant-loop-setting l = Added l.initial.page l.page (digits_of l.setting (bit l.row))
