use Rattle.std.proofs.Common.{◌≡◌, ◌-◌, ◌++◌, length, take, drop, sym, ap, ◌∙◌, subst, arith}
use Rattle.plant.specs.Meaning.{states}
use Rattle.plant.proofs.Limits.{few_states}
use Rattle.draft.proofs.Places.{few_places}
use Rattle.std.proofs.lemmas.List.{take_at, length-take-le}
use Rattle.draft.specs.Outcome.{Answered}
use Rattle.sheet_call.proofs.draft_first.Goals as goal

pub returns : goal.returns
returns g c =
    let m = g.P.Plant.meaning c.args.plant.now in
    let rows = c.args.rows.now in
    let first = c.draft.new.rows in
    let within = g.P.Plant.sound c.args.plant.now in
    let few = few_states m within in
    let count : c.states.result - 0 ≡ states m = omega arith in
    let size : length (take (c.states.result - 0) rows) ≡ states m = length-take-le (c.states.result - 0) rows (omega arith) ∙ count in
    let back : take (states m) (first ++ drop (c.states.result - 0) rows) ≡ first = take_at first (drop (c.states.result - 0) rows) (states m) (c.draft.auto.rows ∙ size) in
    record {
      promised = subst (λ xs. Answered m xs c.args.rules.now c.draft.new.rules c.draft.result) (sym back) (c.draft.ensures.outcome.answered size (let places = few_places m within in omega arith));
      others = ap (λ k. first ++ drop k rows) count ∙ ap (λ xs. xs ++ drop (states m) rows) (sym back);
    }
