use Rattle.std.proofs.Common.{get_or}
use Rattle.filling.specs.Adding.{Added}
use Rattle.rules.specs.Listing.{concat_below, rules_of_state}
use Rattle.draft.proofs.listing.write_rules.Given as goal

-- the rules of the states below this one are written
abbrev pub invariant-loop-state : goal.invariant-loop-state
invariant-loop-state g l = Added l.initial.filling l.filling (concat_below (λ s. rules_of_state l.sizes.lines (get_or l.rows s 0) s) l.state)
