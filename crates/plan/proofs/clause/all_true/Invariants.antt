use Rattle.std.proofs.Common.{◌≡◌, true, take}
use Rattle.std.specs.List.{list_all}
use Rattle.plan.specs.Clauses.{clause_true}
use Rattle.plan.proofs.clause.all_true.Given as goal

-- the clauses seen so far are true
abbrev pub invariant-loop-clause : goal.invariant-loop-clause
invariant-loop-clause l = list_all (clause_true l.word) (take l.clause-index l.clauses) ≡ true
