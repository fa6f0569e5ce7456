use Rattle.std.proofs.Common.{◌≡◌, pred, ltb, length, Err, Result, sym, refl, ap, ◌∙◌, subst, inl, inr, arith}
use Rattle.std.proofs.lemmas.Result.{err_from_is_err_and}
use Rattle.records.proofs.Finding.{found}
use Rattle.records.specs.declared.BytesFault.TheVariants.{AfterEnd}
use Rattle.plan.specs.Judging.{Seen, judge_from, judge_whole, judge_record, plan_kinds}
use Rattle.plan.specs.Kept.{FirstStorable, ReadUp, Spared, Storable, seen_of}
use Rattle.plan.specs.Kinds.{item_code}
use Rattle.plan.specs.declared.fault.PlanFault.{PlanFault}
use Rattle.plan.specs.declared.fault.PlanFault.TheVariants.{HeadMisplaced}
use Rattle.plan.specs.declared.kind.PlanKind.TheVariants.{Item, Head, End}
use Rattle.plan.proofs.Judge.{at_fault, at_end, at_refused, at_more, fails_through, end_fault, end_passes}
use Rattle.plan.proofs.Codes.{item_range, not_end, of_kind}
use Rattle.plan.proofs.Storing.{kept_storable, pleads_for, stored}
use Rattle.plan.proofs.reading.read_records.Goals as goal

pub loop-found-init : goal.loop-found-init
loop-found-init c = ((length c.args.bytes.now, omega arith, refl), inl (refl, refl))

pub returns-in_err-found-clause-upto : goal.returns-in_err-found-clause-upto
returns-in_err-found-clause-upto c =
    let bs = c.args.bytes.now in
    let inv = c.loop-found.invariant.0 in
    let p = err_from_is_err_and c.from_residual.result c.from_residual.ensures.1 in
    let fault = at_fault bs c.loop-found.at inv.0 (seen_of c.loop-found.reading) inv.1 c.in_err-found.field-0.0 (sym c.in_err-found.ensures) in
    subst (λ (r : Result (Unit {0}) PlanFault). ReadUp (judge_from (length bs) bs (seen_of c.args.reading.now) c.args.start) (judge_whole (seen_of c.loop-found.reading)) r)
    (sym (p.1 ∙ ap Err p.2)) (sym inv.2 ∙ fault)

pub returns-in-Head-clause-upto : goal.returns-in-Head-clause-upto
returns-in-Head-clause-upto c =
    let bs = c.args.bytes.now in
    let at = c.loop-found.at in
    let r = c.in_ok-found.found in
    let inv = c.loop-found.invariant.0 in
    sym inv.2 ∙ at_refused bs at inv.0 (seen_of c.loop-found.reading) inv.1 _ (of_kind bs at r Head c.in-Head.is (sym c.in_ok-found.ensures)) (λ is. omega arith) (HeadMisplaced r.offset) refl

pub returns-in_err-ends_at-in-End-clause-upto : goal.returns-in_err-ends_at-in-End-clause-upto
returns-in_err-ends_at-in-End-clause-upto c =
    let bs = c.args.bytes.now in
    let at = c.loop-found.at in
    let s = seen_of c.loop-found.reading in
    let r = c.in_ok-found.found in
    let inv = c.loop-found.invariant.0 in
    let p = err_from_is_err_and c.from_residual-in_err-ends_at-in-End.result c.from_residual-in_err-ends_at-in-End.ensures.1 in
    let ended = at_end bs at inv.0 s inv.1 _ (of_kind bs at r End c.in-End.is (sym c.in_ok-found.ensures)) refl in
    let fault = end_fault (ltb r.end (length bs)) (AfterEnd r.end) c.in_err-ends_at-in-End.field-0.0 (judge_whole s) c.in_err-ends_at-in-End.ensures in
    subst (λ (x : Result (Unit {0}) PlanFault). ReadUp (judge_from (length bs) bs (seen_of c.args.reading.now) c.args.start) (judge_whole s) x) (sym (p.1 ∙ ap Err p.2)) (sym inv.2 ∙ ended ∙ fault)

pub returns-in-End-clause-upto : goal.returns-in-End-clause-upto
returns-in-End-clause-upto c =
    let bs = c.args.bytes.now in
    let at = c.loop-found.at in
    let s = seen_of c.loop-found.reading in
    let r = c.in_ok-found.found in
    let inv = c.loop-found.invariant.0 in
    let ended = at_end bs at inv.0 s inv.1 _ (of_kind bs at r End c.in-End.is (sym c.in_ok-found.ensures)) refl in
    sym inv.2 ∙ ended ∙ end_passes (ltb r.end (length bs)) (AfterEnd r.end) (judge_whole s) c.in_ok-ends_at-in-End.ensures

pub returns-in_err-take-in-Item : goal.returns-in_err-take-in-Item
returns-in_err-take-in-Item c =
    let bs = c.args.bytes.now in
    let at = c.loop-found.at in
    let s = seen_of c.loop-found.reading in
    let first : Seen = seen_of c.args.reading.now in
    let r = c.in_ok-found.found in
    let kind = c.in-Item.kind in
    let there = of_kind bs at r (Item kind) c.in-Item.is (sym c.in_ok-found.ensures) in
    let inv = c.loop-found.invariant.0 in
    let p = err_from_is_err_and c.from_residual-in_err-take-in-Item.result c.from_residual-in_err-take-in-Item.ensures.1 in
    let is = sym (p.1 ∙ ap Err p.2) in
    let through : (e : PlanFault) → judge_record bs s r.offset (item_code kind) ≡ Err e → judge_from (length bs) bs first c.args.start ≡ Err e =
    λ e refused. sym inv.2 ∙ at_refused bs at inv.0 s inv.1 _ there (not_end kind) e refused in
    record {
      upto =
          subst (λ (x : Result (Unit {0}) PlanFault). ReadUp (judge_from (length bs) bs first c.args.start) (judge_whole (seen_of c.take.new.self)) x) is
          (fails_through (judge_record bs s r.offset (item_code kind)) (judge_from (length bs) bs first c.args.start) through c.in_err-take-in-Item.field-0.0 c.in_err-take-in-Item.ensures.expected);
      spared =
          subst (λ (x : Result (Unit {0}) PlanFault). Spared (FirstStorable first bs c.args.start) x) is
          (pleads_for (Storable s bs r.offset (item_code kind)) (FirstStorable first bs c.args.start)
          (stored bs s first at c.args.start c.loop-found.invariant.1 _ there)
          c.in_err-take-in-Item.field-0.0 c.in_err-take-in-Item.ensures.spared);
    }

pub loop-found-preserved : goal.loop-found-preserved
loop-found-preserved c =
    let bs = c.args.bytes.now in
    let at = c.loop-found.at in
    let s = seen_of c.loop-found.reading in
    let t = seen_of c.take.new.self in
    let r = c.in_ok-found.found in
    let kind = c.in-Item.kind in
    let there = of_kind bs at r (Item kind) c.in-Item.is (sym c.in_ok-found.ensures) in
    let w = found bs plan_kinds at _ there in
    let inv = c.loop-found.invariant.0 in
    let f = inv.0 in
    let enough = inv.1 in
    let e = w.end in
    let within = w.within in
    let range = item_range kind in (
      (pred f, omega arith, sym (at_more bs at f s enough _ there (not_end kind) t c.in_ok-take-in-Item.ensures.expected) ∙ inv.2),
      inr (stored bs s (seen_of c.args.reading.now) at c.args.start c.loop-found.invariant.1 _ there (kept_storable bs s t r.offset (item_code kind) (omega arith) range.1 c.in_ok-take-in-Item.ensures.expected)),
    )
