-- Where want of memory may be pleaded: a record has to be stored. Assumes nothing.
use Rattle.std.proofs.Common.{◌≡◌, ℕ, ◌≤◌, eqb, ◌⊎◌, List, Ok, sym, ◌∙◌, subst, inl, inr, ⊎_elim, arith}
use Rattle.std.proofs.lemmas.Bool.{cases_eq, cond-true, eq-eqb}
use Rattle.records.specs.Reading.{Record, record_at}
use Rattle.plan.specs.Judging.{Seen, judge_record, plan_kinds}
use Rattle.plan.specs.Kept.{FirstStorable, Pleads, Storable}
use Rattle.plan.specs.declared.fault.PlanFault.{PlanFault}
use Rattle.plan.specs.declared.fault.PlanFault.TheVariants.{Bytes, HeadMisplaced, SizeLimits, TooManyClauses, Malformed, Loop, Clash, Memory}
use Rattle.plan.proofs.Forming.{kept_fits}
use Rattle.records.proofs.Finding.{err_ok}

-- a record that was kept had to be stored
pub kept_storable : (bs : List ℕ) (s t : Seen) (o code : ℕ) → 1 ≤ code → code ≤ 5 → judge_record bs s o code ≡ Ok t → Storable s bs o code
kept_storable bs s t o code low high e = ⊎_elim (λ head. absurd (err_ok (HeadMisplaced o) t (sym (cond-true (eqb code 1) _ _ (eq-eqb code 1 head)) ∙ e))) (λ other. (omega (arith, other), high, (kept_fits bs s t o code e).0)) (cases_eq code 1)

-- what has to be stored now, or had to be at first
pub stored : (bs : List ℕ) (s first : Seen) (at start : ℕ) → ((at ≡ start) × (s ≡ first)) ⊎ FirstStorable first bs start → (r : Record) → record_at bs plan_kinds at ≡ Ok r → Storable s bs r.offset r.code → FirstStorable first bs start
stored bs s first at start (inl same) r is here = (r, subst (λ k. record_at bs plan_kinds k ≡ Ok r) same.0 is, subst (λ t. Storable t bs r.offset r.code) same.1 here)
stored bs s first at start (inr before) r is here = before

-- a plea that holds for one reason holds for another that follows
pub pleads_for : (P Q : Type 0) → (P → Q) → (f : PlanFault) → Pleads P f → Pleads Q f
pleads_for P Q on (Bytes f) h = tt
pleads_for P Q on (HeadMisplaced o) h = tt
pleads_for P Q on SizeLimits h = tt
pleads_for P Q on (TooManyClauses o) h = tt
pleads_for P Q on (Malformed o) h = tt
pleads_for P Q on (Loop l) h = tt
pleads_for P Q on (Clash o) h = tt
pleads_for P Q on Memory h = on h
