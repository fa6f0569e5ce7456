use Rattle.std.proofs.Common.{◌++◌, codes, decimal, subst, append_assoc, arith, length-append}
use Rattle.plant.specs.Bits.{bit}
use Rattle.filling.specs.Adding.{Added}
use Rattle.filling.proofs.Adding.{added_more}
use Rattle.sheet_call.specs.Page.{digits_of, line_end}
use Rattle.sheet_call.proofs.Lengths.{state_number, digits_length}
use Rattle.sheet_call.proofs.page.put_line.Goals as goal

pub put_spaced-requires : goal.put_spaced-requires
put_spaced-requires c = let n = state_number c.args.state c.requires.a_state in omega arith

pub put_row-requires : goal.put_row-requires
put_row-requires c =
    let n = state_number c.args.state c.requires.a_state in
    let l = length-append (decimal c.args.state) (codes " ") in
    omega arith

pub put-requires : goal.put-requires
put-requires c =
    let n = state_number c.args.state c.requires.a_state in
    let l = length-append (decimal c.args.state) (codes " ") in
    let d = digits_length c.args.settings (bit c.args.row) in
    omega arith

pub returns : goal.returns
returns c =
    subst (λ xs. Added c.args.page.now c.put.new.page xs)
    (append_assoc (decimal c.args.state) (codes " ") (digits_of c.args.settings (bit c.args.row) ++ line_end))
    (added_more c.put_spaced.ensures (added_more c.put_row.ensures c.put.ensures))
