-- The kinds of a plan's records by their codes. Assumes nothing.
use Rattle.std.proofs.Common.{◌≡◌, ℕ, ◌≤◌, List, Ok, subst, arith}
use Rattle.records.specs.Reading.{record_at}
use Rattle.records.specs.Typed.{coded}
use Rattle.records.specs.declared.Record.{Record as Typed}
use Rattle.plan.specs.Judging.{plan_kinds}
use Rattle.plan.specs.Kinds.{code_of, item_code}
use Rattle.plan.specs.declared.kind.ItemKind.{ItemKind}
use Rattle.plan.specs.declared.kind.ItemKind.TheVariants.{Start, Next, Auxiliary, Ban}
use Rattle.plan.specs.declared.kind.PlanKind.{PlanKind}

-- the codes of clauses and bans
pub item_range : (kind : ItemKind) → (2 ≤ item_code kind) × (item_code kind ≤ 5)
item_range Start = (omega arith, omega arith)
item_range Next = (omega arith, omega arith)
item_range Auxiliary = (omega arith, omega arith)
item_range Ban = (omega arith, omega arith)

pub not_end : (kind : ItemKind) → item_code kind ≡ 15 → ⊥
not_end kind is = let range = (item_range kind).1 in omega arith

-- a record of a kind that is known
pub of_kind : (bs : List ℕ) (at : ℕ) (r : Typed PlanKind) (kind : PlanKind) → r.kind ≡ kind → record_at bs plan_kinds at ≡ Ok (coded code_of r) → record_at bs plan_kinds at ≡ Ok (record { offset = r.offset; code = code_of kind; end = r.end })
of_kind bs at r kind is e = subst (λ (k : PlanKind). record_at bs plan_kinds at ≡ Ok (record { offset = r.offset; code = code_of k; end = r.end })) is e
