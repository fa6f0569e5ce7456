use Rattle.std.proofs.Common.{refl, length-set, arith}
use Rattle.filling.proofs.Writing.{wrote_one}
use Rattle.filling.proofs.Filling.push.Goals as goal

pub returns : goal.returns
returns g c = record {
  same_places = refl;
  size = length-set c.args.self.now.places.now c.args.self.now.filled c.args.item;
  within = omega arith;
  wrote = wrote_one c.args.self.now.places.now c.args.self.now.filled c.args.item (omega arith);
}
