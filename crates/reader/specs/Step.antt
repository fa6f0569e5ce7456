-- What one call answers and leads to, on any plant and any list of rules. Assumes nothing.
use Rattle.std.specs.Prelude.{ℕ, Bool, cond, ◌&&◌, List, Ok, Err, Result, nat_lt}
use Rattle.plant.specs.Meaning.{Meaning, states, settings}
use Rattle.rules.specs.Fitting.{fits}
use Rattle.rules.specs.declared.Rule.{Rule}
use Rattle.reader.specs.declared.call.Call.{Call}
use Rattle.reader.specs.declared.call.Call.TheVariants.{Begin, Set, See, Close}
use Rattle.reader.specs.declared.fault.LogFault.{LogFault}
use Rattle.reader.specs.declared.fault.LogFault.TheVariants.{OutOfTurn, BeyondSizes, NoStart, Misfit, NotFollowing}
use Rattle.reader.specs.declared.phase.Phase.{Phase}
use Rattle.reader.specs.declared.phase.Phase.TheVariants.{Closed, Poised, Driven}

-- what a call answers: nothing more than that it is taken, or why not
abbrev pub Answer : Type 0
Answer = Result (Unit {0}) LogFault

-- whether setting a fits in state s
abbrev pub fits_there : Meaning → List Rule → ℕ → ℕ → Bool
fits_there m rs s a = fits m.bits m.lines rs s a

-- a number below the size that passes the test is taken, with x; else it is beyond the size, or fails by this fault
abbrev pub offered : {X : Type 0} → ℕ → ℕ → Bool → LogFault → X → Result X LogFault
offered size k test fault x = cond (nat_lt k size) (cond test (Ok x) (Err fault)) (Err (BeyondSizes k))

-- the answer, by phase and call together: out of turn (15), beyond the size (12), no start (16), misfit (17), not following (18)
abbrev pub answer : Meaning → List Rule → Phase → Call → Answer
answer m rs Closed (Begin t) = offered (states m) t (m.start t) (NoStart t) tt
answer m rs Closed (Set a) = Err (OutOfTurn Closed)
answer m rs Closed (See t) = Err (OutOfTurn Closed)
answer m rs Closed Close = Err (OutOfTurn Closed)
answer m rs (Poised s) (Begin t) = Err (OutOfTurn (Poised s))
answer m rs (Poised s) (Set a) = offered (settings m) a (fits_there m rs s a) (Misfit a) tt
answer m rs (Poised s) (See t) = Err (OutOfTurn (Poised s))
answer m rs (Poised s) Close = Ok tt
answer m rs (Driven s a) (Begin t) = Err (OutOfTurn (Driven s a))
answer m rs (Driven s a) (Set b) = Err (OutOfTurn (Driven s a))
answer m rs (Driven s a) (See t) = offered (states m) t (m.follows s a t) (NotFollowing t) tt
answer m rs (Driven s a) Close = Ok tt

-- the phase after, by phase and call together
abbrev pub after : Meaning → List Rule → Phase → Call → Phase
after m rs Closed (Begin t) = cond (nat_lt t (states m) && m.start t) (Poised t) Closed
after m rs Closed (Set a) = Closed
after m rs Closed (See t) = Closed
after m rs Closed Close = Closed
after m rs (Poised s) (Begin t) = Poised s
after m rs (Poised s) (Set a) = cond (nat_lt a (settings m) && fits_there m rs s a) (Driven s a) (Poised s)
after m rs (Poised s) (See t) = Poised s
after m rs (Poised s) Close = Closed
after m rs (Driven s a) (Begin t) = Driven s a
after m rs (Driven s a) (Set b) = Driven s a
after m rs (Driven s a) (See t) = cond (nat_lt t (states m) && m.follows s a t) (Poised t) (Driven s a)
after m rs (Driven s a) Close = Closed
