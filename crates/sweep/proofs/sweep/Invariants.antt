use Rattle.sweep.proofs.Sweeping.{Sweeping}
use Rattle.sweep.proofs.sweep.Given as goal

abbrev pub invariant-loop-s : goal.invariant-loop-s
invariant-loop-s g l = Sweeping (g.P.Plant.meaning l.plant) l.initial.held l.held l.changed l.s
