use Rattle.std.proofs.Common.{◌-◌, refl, arith, rules}
use Rattle.plant.specs.Meaning.{Meaning}
use Rattle.plant.proofs.Limits.{few_states}
use Rattle.plan.specs.Held.{parts_of}
use Rattle.plan.specs.Machine.{plan_meaning}
use Rattle.plan.specs.Sound.{plan_sound}
use Rattle.plan.specs.declared.plan.Plan.{Plan}
use Rattle.sheet_call.proofs.Making.{lines_of}
use Rattle.sheet_call.proofs.try_sheet.Goals as goal

abbrev meant : Plan → Meaning
meant x = plan_meaning (parts_of x)

pub slice_bounds-put_lines-end : goal.slice_bounds-put_lines-end
slice_bounds-put_lines-end c =
    let x = c.in_ok-plan.plan in
    let few = few_states (meant x) (plan_sound x) in
    let kept = c.draft_first.auto.rows in
    search rules

pub returns-clause-tried : goal.returns-clause-tried
returns-clause-tried c =
    let x = c.in_ok-plan.plan in
    let few = few_states (meant x) (plan_sound x) in
    let kept = c.draft_first.auto.rows in
    record {
      count = c.in_ok-count.count;
      answer = refl;
      plan = record {
        parts = parts_of x;
        judged = c.in_ok-plan.ensures.judged;
        admitted = c.in_ok-plan.ensures.admitted;
        first_rows = c.in_ok-count.ensures;
      };
      text = lines_of (meant x) _ _ c.draft_first.new.rows _ (c.states.result - 0) c.settings.result (omega arith) c.settings.ensures (omega arith) c.put_lines-length.ensures;
    }
