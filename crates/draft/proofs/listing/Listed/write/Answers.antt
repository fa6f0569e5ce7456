use Rattle.std.proofs.Common.{suc, ◌^◌, ◌≤◌, pow-suc, pow_mono, arith}
use Rattle.rules.specs.Listing.{rules_of_line}
use Rattle.rules.proofs.Listing.{lines_length}
use Rattle.draft.proofs.Writing.{added_next}
use Rattle.draft.proofs.listing.Listed.write.Goals as goal

pub write_line-requires-clause-room : goal.write_line-requires-clause-room
write_line-requires-clause-room c =
    let listed = c.args.self.now in
    let j = c.loop-line.line in
    let few = lines_length listed.sizes.lines listed.row listed.state j in
    let step = pow-suc 2 j in
    let below : suc j ≤ listed.sizes.lines = omega arith in
    let more : 2 ^ suc j ≤ 2 ^ listed.sizes.lines = pow_mono below in
    omega arith

pub loop-line-preserved : goal.loop-line-preserved
loop-line-preserved c =
    let listed = c.args.self.now in
    added_next (λ j. rules_of_line listed.sizes.lines listed.row listed.state j) c.loop-line.line c.loop-line.invariant c.write_line.ensures
