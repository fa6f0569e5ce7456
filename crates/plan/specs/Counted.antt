-- How many clauses of each kind a plan has. Assumes nothing.
use Rattle.std.specs.Prelude.{◌≡◌, length}
use Rattle.plan.specs.Machine.{Parts}
use Rattle.plan.specs.declared.plan.Counts.{Counts}

pub record Counted (p : Parts) (r : Counts) : Type 0 where
  pub auxiliaries : r.auxiliaries ≡ p.auxiliaries
  pub starts : r.starts ≡ length p.starts
  pub nexts : r.nexts ≡ length p.nexts
  pub auxes : r.auxes ≡ length p.auxes
  pub bans : r.bans ≡ length p.bans
