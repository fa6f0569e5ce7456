use Rattle.rules.specs.Listing.{concat_below, rule_at}
use Rattle.filling.specs.Adding.{Added}
use Rattle.draft.proofs.listing.Listed.write_line.Given as goal

-- the rules of the prefixes below `prefix` are written
abbrev pub invariant-loop-prefix : goal.invariant-loop-prefix
invariant-loop-prefix l = Added l.initial.rules l.rules (concat_below (λ p. rule_at l.self.sizes.lines l.self.row l.self.state l.line p) l.prefix)
