use Rattle.std.proofs.Common.{sym, ◌∙◌, arith}
use Rattle.std.proofs.lemmas.Bool.{le-ltb}
use Rattle.plant.proofs.Bits.{bit_beyond}
use Rattle.plant.proofs.digits.has_bit.Goals as goal

pub returns-else-i-lt32 : goal.returns-else-i-lt32
returns-else-i-lt32 c =
    le-ltb c.args.i 32 c.if-i-lt32.false ∙ sym (bit_beyond c.args.x 32 c.args.i (omega arith) c.if-i-lt32.false)
