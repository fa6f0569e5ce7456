use Rattle.std.proofs.Common.{◌≡◌, pred, ◌+◌, ◌-◌, length, Ok, Err, sym, ap, ◌∙◌, subst, arith}
use Rattle.std.proofs.lemmas.Result.{err_from_is_err_and}
use Rattle.reader.specs.Step.{answer}
use Rattle.log_file.specs.Outcome.{EntryInWords}
use Rattle.log_file.specs.Running.{run_from}
use Rattle.log_file.specs.declared.fault.LogFileFault.TheVariants.{Refused}
use Rattle.log_file.proofs.Steps.{at_fault, at_end, at_refused, at_taken, call_some, enough_left, made_err, made_ok, left_alone}
use Rattle.log_file.proofs.Words.{ran}
use Rattle.log_file.proofs.run.run_log.Goals as goal

pub returns-in_err-made : goal.returns-in_err-made
returns-in_err-made g c =
    let m = g.P.Plant.meaning c.args.ruled.now.plant.now in
    let phase = c.loop-made.reader.phase in
    let inv = c.loop-made.invariant in
    let left = length c.args.bytes.now - c.loop-made.taken in
    let enough = enough_left (length c.args.bytes.now) c.loop-made.at c.loop-made.taken inv.0 in
    let q = err_from_is_err_and c.from_residual.result c.from_residual.ensures.1 in
    let fault = at_fault m c.args.ruled.now.rules.now c.args.bytes.now left (record { phase = phase; taken = c.loop-made.taken }) c.loop-made.at enough c.in_err-made.field-0.0 (sym c.in_err-made.ensures.computed) in
    let is = ap (λ x. record { answer = x; phase = phase }) (q.1 ∙ ap Err q.2) ∙ sym fault ∙ inv.1 in
    ran m c.args.ruled.now.rules.now c.args.reader.now.phase c.args.bytes.now phase c.from_residual.result is

pub returns-in_err-make_call : goal.returns-in_err-make_call
returns-in_err-make_call g c =
    let m = g.P.Plant.meaning c.args.ruled.now.plant.now in
    let rs = c.args.ruled.now.rules.now in
    let phase = c.loop-made.reader.phase in
    let at = c.loop-made.at in
    let call = c.in-Some.made.call in
    let inv = c.loop-made.invariant in
    let left = length c.args.bytes.now - c.loop-made.taken in
    let enough = enough_left (length c.args.bytes.now) c.loop-made.at c.loop-made.taken inv.0 in
    let is = sym c.in_ok-made.ensures.computed ∙ ap Ok c.in-Some.is in
    let q = err_from_is_err_and c.from_residual-in_err-make_call.result c.from_residual-in_err-make_call.ensures.1 in
    let w = made_err at (answer m rs phase call) c.in_err-make_call.field-0.0 c.in_err-make_call.ensures.answers in
    let refused = at_refused m rs c.args.bytes.now left (record { phase = phase; taken = c.loop-made.taken }) at enough call c.in-Some.made.end is w.0 w.1 in
    let same : c.make_call.new.reader.phase ≡ phase = c.make_call.ensures.moves ∙ left_alone m rs phase call w.0 w.1 in
    let done = ap (λ x. record { answer = x; phase = c.make_call.new.reader.phase }) (q.1 ∙ ap Err (q.2 ∙ w.2)) ∙ ap (λ x. record { answer = Err (Refused at w.0); phase = x }) same ∙ sym refused ∙ inv.1 in
    ran m rs c.args.reader.now.phase c.args.bytes.now c.make_call.new.reader.phase c.from_residual-in_err-make_call.result done

pub loop-made-preserved : goal.loop-made-preserved
loop-made-preserved g c =
    let m = g.P.Plant.meaning c.args.ruled.now.plant.now in
    let rs = c.args.ruled.now.rules.now in
    let bytes = c.args.bytes.now in
    let phase = c.loop-made.reader.phase in
    let at = c.loop-made.at in
    let call = c.in-Some.made.call in
    let end = c.in-Some.made.end in
    let inv = c.loop-made.invariant in
    let left = length c.args.bytes.now - c.loop-made.taken in
    let enough = enough_left (length c.args.bytes.now) c.loop-made.at c.loop-made.taken inv.0 in
    let is = sym c.in_ok-made.ensures.computed ∙ ap Ok c.in-Some.is in
    let there = subst (λ x. EntryInWords bytes at (Ok x)) c.in-Some.is c.in_ok-made.ensures.in_words in
    let next = there.next in
    let some = call_some call in
    let few = inv.0 in
    let one_less : pred left ≡ length bytes - (c.loop-made.taken + 1) = omega arith in
    let taken = at_taken m rs bytes left (record { phase = phase; taken = c.loop-made.taken }) at enough call end is (made_ok at (answer m rs phase call) c.in_ok-make_call.ensures.answers) in (
      omega arith,
      ap (λ k. run_from m rs bytes k (record { phase = c.make_call.new.reader.phase; taken = c.loop-made.taken + 1 }) end) (sym one_less) ∙
          ap (λ x. run_from m rs bytes (pred left) (record { phase = x; taken = c.loop-made.taken + 1 }) end) c.make_call.ensures.moves ∙ sym taken ∙ inv.1,
    )

pub returns : goal.returns
returns g c =
    let m = g.P.Plant.meaning c.args.ruled.now.plant.now in
    let phase = c.loop-made.reader.phase in
    let inv = c.loop-made.invariant in
    let left = length c.args.bytes.now - c.loop-made.taken in
    let enough = enough_left (length c.args.bytes.now) c.loop-made.at c.loop-made.taken inv.0 in
    let end = at_end m c.args.ruled.now.rules.now c.args.bytes.now left (record { phase = phase; taken = c.loop-made.taken }) c.loop-made.at enough (sym c.in_ok-made.ensures.computed ∙ ap Ok c.in_default.is) in
    let is = sym end ∙ inv.1 in
    ran m c.args.ruled.now.rules.now c.args.reader.now.phase c.args.bytes.now phase (Ok c.loop-made.taken) is
