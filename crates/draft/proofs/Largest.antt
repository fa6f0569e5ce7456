-- The computed rows are the largest safe assignment, and what they say of the starts. Assumes nothing.
use Rattle.std.proofs.Common.{◌≡◌, ℕ, ◌<◌, Bool, true, false, List, length, get_or, take, drop, Decides, sym, refl, ap, ◌∙◌, subst, ⊎_elim, arith}
use Rattle.std.proofs.lemmas.List.FromFn.{length-map-range_with_len, get_or-map-range_with_len}
use Rattle.std.proofs.lemmas.List.{get_or_past, take_at}
use Rattle.std.proofs.lemmas.Bool.{both_ways, cases_eq, cases_lt}
use Rattle.plant.specs.Bits.{bit}
use Rattle.plant.specs.Lasting.{SafeAssignment, Largest, Stays, Lasting, HoldsStarts, Hopeless}
use Rattle.plant.specs.Meaning.{Meaning, Within, states, settings}
use Rattle.plant.proofs.Bits.{bit_beyond, bit_pack, pack_small, pack_some}
use Rattle.plant.proofs.Assignments.{states_of, state_after, states_last}
use Rattle.reader.specs.Strings.{Faithful, KeepsLaw}
use Rattle.reader.proofs.Keeping.{keeps_law}
use Rattle.rules.specs.declared.Rule.{Rule}
use Rattle.rules.specs.Listing.{rules_of}
use Rattle.rules.proofs.Listing.{lists_standing, states_length}
use Rattle.rules.proofs.Readback.{read_back}
use Rattle.sweep.specs.Greatest.{Greatest, held_in, lasting_states}
use Rattle.plant.specs.Staying.{stays}
use Rattle.sweep.proofs.Greatest.{greatest_closed, lasting_states_greatest}
use Rattle.plant.proofs.Staying.{stays_decides}
use Rattle.draft.specs.Outcome.{Filled, ReadsBack, WentThrough, TurnedAway}
use Rattle.draft.specs.Rows.{row_from, rows_of, open_in}
use Rattle.draft.specs.Starts.{AllOpen, Lost}
use Rattle.filling.specs.Writing.{Wrote}

-- an empty row has nothing open
empty_shuts : (rows : List ℕ) (s a : ℕ) → get_or rows s 0 ≡ 0 → open_in rows s a ≡ true → ⊥
empty_shuts rows s a empty is_open = both_ways (bit 0 a) (bit_beyond 0 0 a (omega arith) (omega arith)) (subst (λ x. bit x a ≡ true) empty is_open)

-- a state that does not last has nothing open
pub down_row : (m : Meaning) → Within m → (held : List Bool) → Greatest m held → (s : ℕ) → held_in held s ≡ false → row_from m held s ≡ 0
down_row m within held great s down =
    ⊎_elim
    (λ e. e)
    (λ some.
    let w = pack_some (stays m (held_in held) s) (settings m) some in
    absurd (both_ways (held_in held s) down (greatest_closed m held great s w.0 ((stays_decides m within (held_in held) s w.0).0 w.2))))
    (cases_eq (row_from m held s) 0)

module _ (m : Meaning) (within : Within m) where
  abbrev held : List Bool
  held = lasting_states m

  great : Greatest m held
  great = lasting_states_greatest m within

  pub rows_size : length (rows_of m) ≡ states m
  rows_size = length-map-range_with_len (row_from m held) 0 (states m)

  row_at : (s : ℕ) → s < states m → get_or (rows_of m) s 0 ≡ row_from m held s
  row_at s lt = get_or-map-range_with_len (row_from m held) 0 (states m) s s 0 lt (omega arith)

  -- a state without a row has nothing open
  open_state : (s a : ℕ) → open_in (rows_of m) s a ≡ true → s < states m
  open_state s a is_open =
      ⊎_elim (λ lt. lt) (λ past. absurd (empty_shuts (rows_of m) s a (get_or_past (rows_of m) s 0 (let e = rows_size in omega arith)) is_open)) (cases_lt s (states m))

  open_setting : (s a : ℕ) → open_in (rows_of m) s a ≡ true → a < settings m
  open_setting s a is_open =
      let lt = open_state s a is_open in
      let small : get_or (rows_of m) s 0 < Prim.Native.Nat.◌^◌ 2 (settings m) = subst (λ x. x < Prim.Native.Nat.◌^◌ 2 (settings m)) (sym (row_at s lt)) (pack_small (stays m (held_in held) s) (settings m)) in
      ⊎_elim (λ l. l) (λ past. absurd (both_ways _ (bit_beyond (get_or (rows_of m) s 0) (settings m) a small past) is_open)) (cases_lt a (settings m))

  open_stays : (s a : ℕ) → s < states m → a < settings m → open_in (rows_of m) s a ≡ stays m (held_in held) s a
  open_stays s a s_lt a_lt = ap (λ x. bit x a) (row_at s s_lt) ∙ bit_pack (stays m (held_in held) s) (settings m) a a_lt

  -- open are the settings that are safe and lead only to states that last
  pub open_decides : (s a : ℕ) → Decides (open_in (rows_of m) s a) (Stays m (held_in held) s a)
  open_decides s a =
      let d = stays_decides m within (held_in held) s a in (
        λ e. d.0 (sym (open_stays s a (open_state s a e) (open_setting s a e)) ∙ e),
        λ h. open_stays s a (within.safe_state s a h.0) (within.safe_setting s a h.0) ∙ d.1 h,
      )

  rows_safe : SafeAssignment m (open_in (rows_of m))
  rows_safe = record {
    safe = λ s a e. ((open_decides s a).0 e).0;
    again = λ s a t e f.
        let w = great.lasts t (((open_decides s a).0 e).1 t f) in
        (w.0, (open_decides t w.0).1 w.1);
  }

  rows_largest : Largest m (open_in (rows_of m))
  rows_largest = record {
    sound = rows_safe;
    all = λ K safe s a e.
        (open_decides s a).1 (
          safe.safe s a e,
          λ t f. great.all (states_of m K) (states_last m within K safe) t (state_after m within K safe s a t e f),
        );
  }

  pub rows_filled : Filled m (rows_of m)
  rows_filled = record {
    computed = refl;
    largest = rows_largest;
    within = λ s a e. (open_state s a e, open_setting s a e);
  }

  -- a row that is not empty has an open setting
  some_open_in : (s : ℕ) → (get_or (rows_of m) s 0 ≡ 0 → ⊥) → (a : ℕ) × (open_in (rows_of m) s a ≡ true)
  some_open_in s some =
      let lt : s < states m = ⊎_elim (λ l. l) (λ past. absurd (some (get_or_past (rows_of m) s 0 (let e = rows_size in omega arith)))) (cases_lt s (states m)) in
      let w = pack_some (stays m (held_in held) s) (settings m) (λ none. some (row_at s lt ∙ none)) in
      (w.0, open_stays s w.0 lt w.1 ∙ w.2)

  starts_open : AllOpen m (rows_of m) → (t : ℕ) → m.start t ≡ true → (a : ℕ) × (open_in (rows_of m) t a ≡ true)
  starts_open all t start = some_open_in t (all t start)

  starts_held : AllOpen m (rows_of m) → HoldsStarts m (held_in held)
  starts_held all t start =
      let w = starts_open all t start in
      greatest_closed m held great t w.0 ((open_decides t w.0).0 w.1)

  lost_hopeless : (t : ℕ) → Lost m (rows_of m) t → Hopeless m
  lost_hopeless t lost L lasts holds =
      let w = great.lasts t (great.all L lasts t (holds t lost.start)) in
      empty_shuts (rows_of m) t w.0 lost.empty ((open_decides t w.0).1 w.1)

  rows_read_back : ReadsBack m (rows_of m) (rules_of m.bits m.lines (rows_of m))
  rows_read_back s a s_lt a_lt some =
      let w = some_open_in s some in
      read_back m.bits m.lines (rows_of m) (rules_of m.bits m.lines (rows_of m)) (lists_standing m.lines (rows_of m) m.bits)
      s s_lt w.0 (open_setting s w.0 w.1) w.1 a a_lt

  rows_faithful : AllOpen m (rows_of m) → Faithful m (rules_of m.bits m.lines (rows_of m))
  rows_faithful all = record {
    assigned = open_in (rows_of m);
    largest = rows_largest;
    starts = starts_open all;
    reads = λ s a b a_lt e. rows_read_back s a (open_state s b e) a_lt (λ empty. empty_shuts (rows_of m) s b empty e);
  }

  -- where some lasting set holds every start, no start has an empty row, and so the rules are faithful
  pub hope_faithful : (L : ℕ → Bool) → Lasting m L → HoldsStarts m L → Faithful m (rules_of m.bits m.lines (rows_of m))
  hope_faithful L lasts holds =
      rows_faithful (λ t start empty.
      let w = great.lasts t (great.all L lasts t (holds t start)) in
      empty_shuts (rows_of m) t w.0 empty ((open_decides t w.0).1 w.1))

  pub turned_away : (before : List Rule) (t : ℕ) → Lost m (rows_of m) t → TurnedAway m (rows_of m) before before t
  turned_away before t lost = record { filled = rows_filled; lost = lost; hopeless = lost_hopeless t lost; same = refl }

  pub went_through : (before after : List Rule) (n : ℕ) → AllOpen m (rows_of m) → Wrote before after 0 n (rules_of m.bits m.lines (rows_of m)) → WentThrough m (rows_of m) before after n
  went_through before after n all wrote =
      let rs = rules_of m.bits m.lines (rows_of m) in
      let size : n ≡ length rs = let e = wrote.ends in omega arith in
      let first : take n after ≡ rs = ap (take n) wrote.places ∙ take_at rs (drop n before) n (sym size) in
      record {
        filled = rows_filled;
        starts = starts_open all;
        hope = (held_in held, great.lasts, starts_held all);
        number = size;
        few = let h = states_length m.lines (rows_of m) (states m) in omega arith;
        rules = wrote.places;
        standing = subst (λ xs. Rattle.rules.specs.Listing.ListsStanding m.bits m.lines (rows_of m) xs) (sym first) (lists_standing m.lines (rows_of m) m.bits);
        read_back = subst (λ xs. ReadsBack m (rows_of m) xs) (sym first) rows_read_back;
        faithful = subst (λ xs. Faithful m xs) (sym first) (rows_faithful all);
        law = subst (λ xs. KeepsLaw m xs) (sym first) (keeps_law m within rs (rows_faithful all));
      }
