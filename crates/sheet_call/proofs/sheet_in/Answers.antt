use Rattle.std.proofs.Common.{inr}
use Rattle.sheet_call.proofs.Making.{lines_computed, refusal_computed, lines_within, wrote_within, rows_refused, places_refused, room_right}
use Rattle.sheet_call.proofs.sheet_in.Goals as goal

pub returns-in_default-as_mut_array-clause-outcome : goal.returns-in_default-as_mut_array-clause-outcome
returns-in_default-as_mut_array-clause-outcome c =
    rows_refused c.args.bytes.now c.args.text.now c.in-Some.text.now c.args.rows.now c.args.rules.now c.in-Some.ensures.cases
    _ c.in_default-as_mut_array.ensures.cases c.unmade-in_default-as_mut_array.ensures

pub returns-in_default-as_mut_array-2-clause-outcome : goal.returns-in_default-as_mut_array-2-clause-outcome
returns-in_default-as_mut_array-2-clause-outcome c =
    places_refused c.args.bytes.now c.args.text.now c.in-Some.text.now c.args.rows.now c.args.rules.now c.in-Some.ensures.cases
    c.in-Some-as_mut_array.rows.now _ c.in-Some-as_mut_array.ensures.cases c.in_default-as_mut_array-2.ensures.cases c.unmade-in_default-as_mut_array-2.ensures

pub returns-in-Ok-clause-outcome : goal.returns-in-Ok-clause-outcome
returns-in-Ok-clause-outcome c =
    let w = c.in-Ok.ensures.tried in
    room_right c.args.bytes.now c.args.text.now c.in-Some.text.now c.args.rows.now c.args.rules.now c.in-Some.ensures.cases
    c.try_sheet.new.text c.in-Some-as_mut_array.rows.now c.try_sheet.new.rows c.in-Some-as_mut_array-2.rules.now c.try_sheet.new.rules c.in-Ok.sheet
    c.in-Some-as_mut_array.ensures.cases c.in-Some-as_mut_array-2.ensures.cases (lines_within _ _ _ _ w) c.try_sheet.ensures.size
    (inr (lines_computed _ _ _ _ _ _ _ _ w))

pub returns-in-Err-clause-outcome : goal.returns-in-Err-clause-outcome
returns-in-Err-clause-outcome c =
    room_right c.args.bytes.now c.args.text.now c.in-Some.text.now c.args.rows.now c.args.rules.now c.in-Some.ensures.cases
    c.write_refusal.new.text c.in-Some-as_mut_array.rows.now c.try_sheet.new.rows c.in-Some-as_mut_array-2.rules.now c.try_sheet.new.rules _
    c.in-Some-as_mut_array.ensures.cases c.in-Some-as_mut_array-2.ensures.cases (wrote_within c.write_refusal.ensures.wrote) c.write_refusal.ensures.size
    (refusal_computed _ _ _ _ _ _ _ _ _ _ c.in-Err.ensures.tried c.write_refusal.ensures.wrote)
