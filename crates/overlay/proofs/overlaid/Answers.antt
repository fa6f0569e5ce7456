use Rattle.plant.proofs.Bits.{bit_of_and}
use Rattle.overlay.proofs.Together.{within_each, smaller_together}
use Rattle.overlay.proofs.overlaid.Goals as goal

pub returns-clause-both : goal.returns-clause-both
returns-clause-both c = bit_of_and c.args.first c.args.second

pub returns-clause-within_each : goal.returns-clause-within_each
returns-clause-within_each c = within_each

pub returns-clause-smaller_together : goal.returns-clause-smaller_together
returns-clause-smaller_together c = smaller_together
