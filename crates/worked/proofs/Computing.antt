-- The worked cases, by computing. Assumes nothing.
use Rattle.std.proofs.Common.{refl}
use Rattle.std.specs.Fmt.{digits}
use Rattle.worked.specs.Plans.{brake}
use Rattle.worked.specs.Worked.{Worked}

pub worked : Worked brake
unfolding digits
worked = record {
  empty_input = refl;
  sheet = refl;
  rules = refl;
  rule_file = refl;
  without_third_next = refl;
  without_start = refl;
  clashing = refl;
  free = refl;
  sizes = refl;
  parts = _;
  judged = refl;
  read = refl;
  phase = refl;
}
