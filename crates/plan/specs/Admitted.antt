-- What holds of every admitted plan. Assumes nothing.
use Rattle.std.specs.Prelude.{◌≡◌, ℕ, ◌^◌, ◌<◌, List}
use mathlib.Core.List.{Memᴰ}
use Rattle.plant.specs.Conditions.{Holds}
use Rattle.plan.specs.Depends.{LoopFree}
use Rattle.plan.specs.Formed.{WellFormed}
use Rattle.plan.specs.Machine.{Parts, Fits, Follows, PlanWords, extension, plan_meaning}
use Rattle.plan.specs.declared.clause.Clause.{Clause}

-- two clauses for one letter with opposite values, whose conditions some assignment of all letters makes true together
pub record Clash (c d : Clause) : Type 0 where
  pub letter : c.letter ≡ d.letter
  pub opposite : c.value ≡ d.value → ⊥
  pub together : (w : ℕ) × Holds c.condition w × Holds d.condition w

-- no two clauses of the list clash
abbrev pub ClashFree : List Clause → Type 0
ClashFree cs = (c d : Clause) → Memᴰ c cs → Memᴰ d cs → Clash c d → ⊥

-- an admitted plan is well-formed, no auxiliary depends on itself, no two clauses of one kind clash, its plant's starts, safe pairs and followings are as the clauses say, and every pair has an extension that fits and a state that follows
pub record Admitted (p : Parts) : Type 0 where
  pub well_formed : WellFormed p
  pub loop_free : LoopFree p.auxes
  pub starts_agree : ClashFree p.starts
  pub nexts_agree : ClashFree p.nexts
  pub auxes_agree : ClashFree p.auxes
  pub words : PlanWords p (plan_meaning p)
  pub fitting : (s a : ℕ) → s < 2 ^ p.bits → a < 2 ^ p.lines → (x : ℕ) × (x < 2 ^ p.auxiliaries) × Fits p (extension p s a x)
  pub followed : (s a : ℕ) → s < 2 ^ p.bits → a < 2 ^ p.lines → (t : ℕ) × (t < 2 ^ p.bits) × Follows p s a t
