-- The rules of a plant's draft. Assumes nothing.
use Rattle.std.specs.Prelude.{ℕ, Bool, List}
use Rattle.plant.specs.Lasting.{Lasting, HoldsStarts}
use Rattle.plant.specs.Meaning.{Meaning}
use Rattle.rules.specs.Listing.{rules_of}
use Rattle.rules.specs.declared.Rule.{Rule}
use Rattle.draft.specs.Rows.{rows_of}

-- some lasting set holds every start: the draft is not refused
abbrev pub Hopeful : Meaning → Type 0
Hopeful m = (L : ℕ → Bool) × Lasting m L × HoldsStarts m L

-- the rules that the draft writes then
abbrev pub draft_rules : Meaning → List Rule
draft_rules m = rules_of m.bits m.lines (rows_of m)
