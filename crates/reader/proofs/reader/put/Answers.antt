use Rattle.std.proofs.Common.{[], ◌∷◌}
use Rattle.filling.proofs.Adding.{added_in_room}
use Rattle.reader.proofs.reader.put.Goals as goal

pub returns : goal.returns
returns c = added_in_room 1 (c.args.answer ∷ []) c.push.result c.requires c.push.ensures
