-- The lists that a plan holds. Assumes nothing.
use Rattle.std.specs.Prelude.{vec_items}
use Rattle.plan.specs.Machine.{Parts}
use Rattle.plan.specs.declared.plan.Plan.{Plan}

abbrev pub parts_of : Plan → Parts
parts_of x = record {
  bits = x.sizes.pair.state_bits;
  lines = x.sizes.pair.lines;
  auxiliaries = x.sizes.auxiliaries;
  starts = vec_items x.starts;
  nexts = vec_items x.nexts;
  auxes = vec_items x.auxes;
  bans = vec_items x.bans;
}
