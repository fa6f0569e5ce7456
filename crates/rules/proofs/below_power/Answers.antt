use Rattle.std.proofs.Common.{◌^◌, ◌≤◌, sym, ◌∙◌, arith, pow_mono}
use Rattle.std.proofs.lemmas.Bool.{le-leb, lt-ltb}
use Rattle.rules.proofs.below_power.Goals as goal

pub returns-then-k-ge8 : goal.returns-then-k-ge8
returns-then-k-ge8 c =
    let ge : 8 ≤ c.args.k = omega arith in
    let wide : 2 ^ 8 ≤ 2 ^ c.args.k = pow_mono ge in
    le-leb 8 c.args.k (omega arith) ∙ sym (lt-ltb c.args.byte (2 ^ c.args.k) (omega arith))
