use Rattle.std.proofs.Common.{length}
use Rattle.filling.proofs.Adding.{added_in_room}
use Rattle.sheet_call.proofs.page.put.Goals as goal

pub returns : goal.returns
returns c = added_in_room (length c.args.bytes.now) c.args.bytes.now c.extend_from_slice.result c.requires c.extend_from_slice.ensures
