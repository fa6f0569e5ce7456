use Rattle.std.proofs.Common.{rules, tests, not}
use Rattle.std.proofs.lemmas.Iterator.{YieldsList-from_slice}
use Rattle.std.proofs.lemmas.Iterator.Search.{position_from_yields_List}
use Rattle.plant.proofs.Firsts.{first_misfit}
use Rattle.plant.proofs.entry.first_misfit.Goals as goal

pub returns : goal.returns
returns g c =
    let fits = g.E.Entry.within c.args.sizes.state_bits c.args.sizes.lines in
    first_misfit fits c.args.entries.now c.position.result
    (position_from_yields_List (λ x. not (fits x)) _ _ c.position.result c.position.ensures.ran (YieldsList-from_slice c.args.entries.now cc) (λ x b q k. search (rules, tests)))
