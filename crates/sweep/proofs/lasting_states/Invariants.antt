use Rattle.std.proofs.Common.{ℕ, Bool}
use Rattle.plant.specs.Lasting.{Lasting}
use Rattle.sweep.specs.Sweep.{up, Inside}
use Rattle.sweep.proofs.lasting_states.Given as goal

-- no state of a lasting set has lost its flag
abbrev pub invariant-loop : goal.invariant-loop
invariant-loop g l = (L : ℕ → Bool) → Lasting (g.P.Plant.meaning l.plant) L → Inside L l.held

abbrev pub decreases-loop : goal.decreases-loop
decreases-loop g l = up l.held
