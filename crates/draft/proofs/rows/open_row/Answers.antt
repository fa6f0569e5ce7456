use Rattle.std.proofs.Common.{ap, ◌∙◌, zero-add, arith}
use Rattle.plant.specs.Bits.{pack}
use Rattle.plant.specs.Meaning.{settings}
use Rattle.plant.specs.Staying.{stays}
use Rattle.plant.proofs.Limits.{few_settings}
use Rattle.sweep.specs.Greatest.{held_in}
use Rattle.draft.proofs.Packing.{packed}
use Rattle.draft.proofs.rows.open_row.Goals as goal

pub returns : goal.returns
returns g c =
    let m = g.P.Plant.meaning c.args.flagged.now.plant.now in
    let opened = stays m (held_in c.args.flagged.now.held.now) c.args.state in
    c.gathered.ensures ∙ packed opened 0 (settings m) (let few = few_settings m (g.P.Plant.sound c.args.flagged.now.plant.now) in omega arith) ∙ ap (pack opened) (zero-add (settings m))
