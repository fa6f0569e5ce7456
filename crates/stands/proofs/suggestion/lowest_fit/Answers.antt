use Rattle.std.proofs.Common.{rules, tests, refl, arith}
use Rattle.std.proofs.lemmas.Iterator.{YieldsList-from_range}
use Rattle.std.proofs.lemmas.Iterator.Search.{find_from_yields_List}
use Rattle.plant.specs.Meaning.{Meaning, settings}
use Rattle.reader.specs.Step.{fits_there}
use Rattle.stands.proofs.Lowest.{lowest_found}
use Rattle.stands.proofs.suggestion.lowest_fit.Goals as goal

pub returns-clause-in_words : goal.returns-clause-in_words
returns-clause-in_words g c =
    let m : Meaning = g.P.Plant.meaning c.args.ruled.now.plant.now in
    let test = fits_there m c.args.ruled.now.rules.now c.args.state in
    lowest_found m c.args.ruled.now.rules.now c.args.state c.find.result
    (find_from_yields_List test _ _ c.find.result c.find.ensures.ran (YieldsList-from_range 0 c.settings.result (settings m) refl (let e = c.settings.ensures in omega arith)) (λ x b q k. search (rules, tests)))
