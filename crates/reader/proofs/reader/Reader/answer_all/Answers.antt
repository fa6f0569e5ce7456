use Rattle.std.proofs.Common.{◌≡◌, ◌+◌, [], ◌∷◌, ◌++◌, length, get_or, take, is_ok, Decides, sym, ap, ◌∙◌, subst, subst₂, arith, rules}
use Rattle.std.proofs.lemmas.List.{length-take-le, take_all, take_more}
use Rattle.filling.specs.Adding.{Added}
use Rattle.filling.proofs.Adding.{added_more, added_all}
use Rattle.reader.specs.Law.{Lawful, Permitted}
use Rattle.reader.specs.Outcome.{Ran}
use Rattle.reader.specs.Step.{answer, after}
use Rattle.reader.specs.Strings.{answers, phase_after, happened}
use Rattle.reader.specs.declared.call.Call.{Call}
use Rattle.reader.specs.declared.call.Call.TheVariants.{Begin}
use Rattle.reader.specs.declared.phase.Phase.{Phase}
use Rattle.reader.proofs.Keeping.{keeps_law, next_decides}
use Rattle.reader.proofs.Strings.{answers_length, answers_push, phase_push}
use Rattle.reader.proofs.reader.Reader.answer_all.Goals as goal

pub put-requires : goal.put-requires
put-requires g c =
    let calls = c.args.calls.now in
    let i = c.loop-call.call-index in
    let made = answers_length (g.P.Plant.meaning c.args.ruled.now.plant.now) c.args.ruled.now.rules.now (take i calls) c.args.self.now.phase in
    let few = length-take-le i calls (omega arith) in
    let ends = c.loop-call.invariant.0.wrote.ends in
    let size = c.loop-call.invariant.0.size in
    let places = ap length c.new-filling.ensures.as_before in
    omega arith

pub loop-call-preserved : goal.loop-call-preserved
loop-call-preserved g c =
    let m = g.P.Plant.meaning c.args.ruled.now.plant.now in
    let rs = c.args.ruled.now.rules.now in
    let calls = c.args.calls.now in
    let start = c.args.self.now.phase in
    let i = c.loop-call.call-index in
    let x : Call = get_or calls i (Begin 0) in
    let more : take (i + 1) calls ≡ take i calls ++ (x ∷ []) = take_more calls i (Begin 0) c.loop-call-test.true in
    let given = c.make.ensures.answers ∙ ap (λ (p : Phase). answer m rs p x) c.loop-call.invariant.1 in
    let moved = c.make.ensures.moves ∙ ap (λ (p : Phase). after m rs p x) c.loop-call.invariant.1 in (
      subst (λ xs. Added c.new-filling.result c.put.new.answers xs)
          (ap (λ r. answers m rs start (take i calls) ++ (r ∷ [])) given ∙ sym (answers_push m rs (take i calls) start x) ∙ ap (answers m rs start) (sym more))
          (added_more c.loop-call.invariant.0 c.put.ensures),
      moved ∙ sym (phase_push m rs (take i calls) start x) ∙ ap (phase_after m rs start) (sym more),
    )

pub returns : goal.returns
returns g c =
    let m = g.P.Plant.meaning c.args.ruled.now.plant.now in
    let within = g.P.Plant.sound c.args.ruled.now.plant.now in
    let rs = c.args.ruled.now.rules.now in
    let calls = c.args.calls.now in
    let start = c.args.self.now.phase in
    let i = c.loop-call.call-index in
    let all : take i calls ≡ calls = take_all i calls c.loop-call-test.false in
    let given : c.loop-call.filling.places.now ≡ answers m rs start calls =
    added_all c.args.answers.now c.new-filling.ensures.as_before c.new-filling.ensures.none (answers_length m rs calls start ∙ c.requires)
    (subst (λ cs. Added c.new-filling.result c.loop-call.filling (answers m rs start cs)) all c.loop-call.invariant.0) in
    let phase : c.loop-call.self.phase ≡ phase_after m rs start calls = c.loop-call.invariant.1 ∙ ap (phase_after m rs start) all in
    let ran : Ran m rs start c.loop-call.self.phase calls c.loop-call.filling.places.now =
    record {
      answered = given;
      phase = phase;
      law = λ faithful closed.
          subst₂ (λ xs p. Lawful m (happened calls xs) p) (sym (given ∙ ap (λ q. answers m rs q calls) closed)) (sym (phase ∙ ap (λ q. phase_after m rs q calls) closed))
          ((keeps_law m within rs faithful).lawful calls);
      next = λ faithful closed x.
          subst (λ p. Decides (is_ok (answer m rs p x)) (Permitted m p x)) (sym (phase ∙ ap (λ q. phase_after m rs q calls) closed)) (next_decides m within rs faithful calls x);
    } in
    search rules
