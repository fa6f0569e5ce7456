use Rattle.std.proofs.Common.{rules, ◌^◌, ◌<◌, ◌≤◌, sym, ◌∙◌, arith, pow_mono}
use Rattle.std.proofs.lemmas.Bool.{and_from, le-leb, lt-ltb}
use Rattle.plant.proofs.condition.Condition.within.Goals as goal

pub returns-then-letters-ge32 : goal.returns-then-letters-ge32
returns-then-letters-ge32 c =
    let masks = c.args.self.now in
    let many = c.if-letters-ge32.true in
    let wide : 2 ^ 32 ≤ 2 ^ c.args.letters = pow_mono many in
    let ones : masks.ones < 2 ^ 32 = search rules in
    let zeros : masks.zeros < 2 ^ 32 = search rules in
    le-leb 32 c.args.letters many ∙ sym (and_from _ _ (lt-ltb masks.ones (2 ^ c.args.letters) (omega arith)) (lt-ltb masks.zeros (2 ^ c.args.letters) (omega arith)))
