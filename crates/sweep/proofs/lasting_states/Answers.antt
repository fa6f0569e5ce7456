use Rattle.std.proofs.Common.{◌≡◌, true, false, length, refl, arith}
use Rattle.std.proofs.lemmas.List.{get_or-replicate}
use Rattle.plant.specs.Meaning.{states}
use Rattle.sweep.specs.Greatest.{Greatest}
use Rattle.sweep.proofs.Greatest.{greatest_unique, lasting_states_greatest}
use Rattle.sweep.proofs.lasting_states.Goals as goal

pub loop-init : goal.loop-init
loop-init g c = λ L lasts s e.
    let w = lasts s e in
    let lt = (g.P.Plant.sound c.args.plant.now).safe_state s w.0 w.1.0 in
    rw (c.fill.ensures.after (λ y h. h)) (get_or-replicate (length c.args.held.now) s true false (omega arith))

pub loop-preserved : goal.loop-preserved
loop-preserved g c = λ L lasts. c.sweep.ensures.keeps L lasts (c.loop.invariant L lasts)

pub returns : goal.returns
returns g c =
    let m = g.P.Plant.meaning c.args.plant.now in
    let within = g.P.Plant.sound c.args.plant.now in
    let great : Greatest m c.sweep.new.held =
    record {
      size = omega arith;
      lasts = (c.sweep.ensures.settled c.loop-test.false).1;
      all = λ L lasts. c.sweep.ensures.keeps L lasts (c.loop.invariant L lasts);
    } in
    let right : length c.args.held.now ≡ states m = omega arith in
    record {
      refused = λ wrong. absurd (wrong right);
      answered = λ _. refl;
      flags = λ _. greatest_unique m _ _ great (lasting_states_greatest m within);
      greatest = λ _. great;
    }
