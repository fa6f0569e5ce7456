-- What a draft answers and leaves, for all input. Assumes nothing.
use Rattle.std.specs.Prelude.{◌≡◌, ℕ, ◌<◌, ◌≤◌, Bool, true, List, ◌++◌, length, take, drop, Ok, Err, Result, ◌≢◌, slice_index}
use Rattle.plant.specs.Meaning.{Meaning, states, settings}
use Rattle.plant.specs.Lasting.{Largest, Lasting, HoldsStarts, Hopeless}
use Rattle.reader.specs.Strings.{Faithful, KeepsLaw}
use Rattle.rules.specs.declared.Rule.{Rule}
use Rattle.rules.specs.Fitting.{fits}
use Rattle.rules.specs.Listing.{rules_of, ListsStanding}
use Rattle.draft.specs.Rows.{rows_of, open_in, places_needed}
use Rattle.draft.specs.Starts.{Lost}
use Rattle.draft.specs.declared.fault.DraftFault.{DraftFault}
use Rattle.draft.specs.declared.fault.DraftFault.TheVariants.{RowCount, RulePlaces, LostStart}

-- the rows are the largest safe assignment, one for each state, with no bit past the settings
pub record Filled (m : Meaning) (rows : List ℕ) : Type 0 where
  pub computed : rows ≡ rows_of m
  pub largest : Largest m (open_in rows)
  pub within : (s a : ℕ) → open_in rows s a ≡ true → (s < states m) × (a < settings m)

-- where the row of a state is not empty, a setting fits the rules just where its bit is set
abbrev pub ReadsBack : Meaning → List ℕ → List Rule → Type 0
ReadsBack m rows rs = (s a : ℕ) → s < states m → a < settings m → (slice_index rows s ≢ 0) → fits m.bits m.lines rs s a ≡ open_in rows s a

-- every start has an open setting, some lasting set holds every start, the first n places have just the rules that stand,
-- and every string of calls that is read with these rules keeps the law
pub record WentThrough (m : Meaning) (rows : List ℕ) (before after : List Rule) (n : ℕ) : Type 0 where
  pub filled : Filled m rows
  pub starts : (t : ℕ) → m.start t ≡ true → (a : ℕ) × (open_in rows t a ≡ true)
  pub hope : (L : ℕ → Bool) × Lasting m L × HoldsStarts m L
  pub number : n ≡ length (rules_of m.bits m.lines rows)
  pub few : n ≤ places_needed m
  pub rules : after ≡ rules_of m.bits m.lines rows ++ drop n before
  pub standing : ListsStanding m.bits m.lines rows (take n after)
  pub read_back : ReadsBack m rows (take n after)
  pub faithful : Faithful m (take n after)
  pub law : KeepsLaw m (take n after)

-- (10) start t is the lowest whose row is empty, no lasting set holds every start, and the rules are as before
pub record TurnedAway (m : Meaning) (rows : List ℕ) (before after : List Rule) (t : ℕ) : Type 0 where
  pub filled : Filled m rows
  pub lost : Lost m rows t
  pub hopeless : Hopeless m
  pub same : after ≡ before

-- the rows and rules after, and the answer, where the rows lent are of the right number and there are enough places
abbrev pub Answered : Meaning → List ℕ → List Rule → List Rule → Result ℕ DraftFault → Type 0
Answered m rows before after (Ok n) = WentThrough m rows before after n
Answered m rows before after (Err (RowCount needed)) = ⊥
Answered m rows before after (Err (RulePlaces needed)) = ⊥
Answered m rows before after (Err (LostStart t)) = TurnedAway m rows before after t

-- the memory is tested first, the rows (11) before the places for rules (11); what has a wrong length is left alone
pub record Drafted (m : Meaning) (rows rows' : List ℕ) (rules rules' : List Rule) (r : Result ℕ DraftFault) : Type 0 where
  pub wrong_rows : (length rows ≢ states m) → (r ≡ Err (RowCount (states m))) × (rows' ≡ rows) × (rules' ≡ rules)
  pub few_places : length rows ≡ states m → length rules < places_needed m → (r ≡ Err (RulePlaces (places_needed m))) × (rows' ≡ rows) × (rules' ≡ rules)
  pub answered : length rows ≡ states m → places_needed m ≤ length rules → Answered m rows' rules rules' r
