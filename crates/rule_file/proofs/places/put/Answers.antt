use Rattle.std.proofs.Common.{length}
use Rattle.filling.proofs.Adding.{added_in_room}
use Rattle.rule_file.proofs.places.put.Goals as goal

pub returns : goal.returns
returns g c = added_in_room (length c.args.items.now) c.args.items.now c.extend_from_slice.result c.requires c.extend_from_slice.ensures
