use Rattle.std.proofs.Common.{◌^◌, ◌≤◌, arith}
use Rattle.std.proofs.iter.Serving.{serving}
use Rattle.plant.proofs.Limits.{few_settings}
use Rattle.draft.proofs.rows.gathered.Goals as goal

pub fold-requires-clause-callable : goal.fold-requires-clause-callable
fold-requires-clause-callable g c =
    let few = few_settings (g.P.Plant.meaning c.args.flagged.now.plant.now) (g.P.Plant.sound c.args.flagged.now.plant.now) in
    let small : c.settings.result ≤ 2 ^ 4 = omega arith in
    grind serving
