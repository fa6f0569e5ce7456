use Rattle.std.proofs.Common.{◌≡◌, ◌-◌}
use Rattle.plan.specs.Loops.{further, reached}
use Rattle.plan.proofs.loops.reach.Given as goal

-- the rounds left decide, from what is found so far
abbrev pub invariant-loop-round : goal.invariant-loop-round
invariant-loop-round l = further l.clauses (l.rounds - l.round) l.found ≡ reached l.clauses l.rounds l.letter
