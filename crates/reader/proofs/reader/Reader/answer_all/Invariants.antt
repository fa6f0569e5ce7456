use Rattle.std.proofs.Common.{◌≡◌, take}
use Rattle.filling.specs.Adding.{Added}
use Rattle.reader.specs.Strings.{answers, phase_after}
use Rattle.reader.proofs.reader.Reader.answer_all.Given as goal

-- the calls before this one are made and answered
abbrev pub invariant-loop-call : goal.invariant-loop-call
invariant-loop-call g l =
    let m = g.P.Plant.meaning l.ruled.plant.now in
    Added l.initial.filling l.filling (answers m l.ruled.rules.now l.initial.self.phase (take l.call-index l.calls))
    × (l.self.phase ≡ phase_after m l.ruled.rules.now l.initial.self.phase (take l.call-index l.calls))
