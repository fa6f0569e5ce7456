use Rattle.rules.specs.Listing.{concat_below, rules_of_line}
use Rattle.filling.specs.Adding.{Added}
use Rattle.draft.proofs.listing.Listed.write.Given as goal

-- the rules of the lines below `line` are written
abbrev pub invariant-loop-line : goal.invariant-loop-line
invariant-loop-line l = Added l.initial.rules l.rules (concat_below (λ j. rules_of_line l.self.sizes.lines l.self.row l.self.state j) l.line)
