use Rattle.worked.proofs.Computing.{worked}
use Rattle.worked.proofs.cases_hold.Goals as goal

pub returns : goal.returns
returns c = worked
