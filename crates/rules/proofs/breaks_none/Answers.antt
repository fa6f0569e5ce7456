use Rattle.std.proofs.Common.{rules, ◌≡◌, not, tests}
use Rattle.std.proofs.lemmas.Bool.Decides.{Decides-at}
use Rattle.std.proofs.lemmas.Iterator.{YieldsList-from_slice}
use Rattle.std.proofs.lemmas.Iterator.Search.{all_from_yields_List}
use Rattle.rules.specs.Fitting.{fits, breaks}
use Rattle.rules.proofs.Fitting.{fits_decides}
use Rattle.rules.proofs.breaks_none.Goals as goal

pub returns-clause-in_words : goal.returns-clause-in_words
returns-clause-in_words c =
    let b = c.args.sizes.state_bits in
    let n = c.args.sizes.lines in
    let value : c.all.result ≡ fits b n c.args.rules.now c.args.state c.args.setting =
    all_from_yields_List (λ r. not (breaks b n r c.args.state c.args.setting)) _ _ c.all.result c.all.ensures.ran (YieldsList-from_slice c.args.rules.now cc) (λ x b q k. search (rules, tests)) in
    Decides-at _ _ value (fits_decides b n c.args.state c.args.setting c.args.rules.now)
