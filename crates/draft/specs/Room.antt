-- Whether the memory lent to a draft has the right lengths. Assumes nothing.
use Rattle.std.specs.Prelude.{◌≡◌, ℕ, ◌<◌, ◌≤◌, Ok, Err, Result, ◌≢◌}
use Rattle.plant.specs.Meaning.{Meaning, states}
use Rattle.draft.specs.Rows.{places_needed}
use Rattle.draft.specs.declared.fault.DraftFault.{DraftFault}
use Rattle.draft.specs.declared.fault.DraftFault.TheVariants.{RowCount, RulePlaces, LostStart}

-- the rows are one for each state, and the places for rules suffice; else the first of the two that does not hold
abbrev pub Room : Meaning → ℕ → ℕ → Result (Unit {0}) DraftFault → Type 0
Room m rows rules (Ok _) = (rows ≡ states m) × (places_needed m ≤ rules)
Room m rows rules (Err (RowCount needed)) = (rows ≢ states m) × (needed ≡ states m)
Room m rows rules (Err (RulePlaces needed)) = (rows ≡ states m) × (rules < places_needed m) × (needed ≡ places_needed m)
Room m rows rules (Err (LostStart t)) = ⊥
