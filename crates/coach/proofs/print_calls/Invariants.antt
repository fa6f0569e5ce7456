use Rattle.std.proofs.Common.{◌-◌, length}
use Rattle.coach.proofs.print_calls.Given as goal

-- each call takes a byte at least
abbrev pub decreases-loop-made : goal.decreases-loop-made
decreases-loop-made g l = length l.log - l.at
