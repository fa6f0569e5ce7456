-- A draft that keeps its promises makes what is computed. Assumes nothing.
use Rattle.std.proofs.Common.{◌≡◌, ℕ, ◌<◌, ◌≤◌, ◌≢◌, Bool, true, false, ◌&&◌, eqb, ◌⊎◌, List, [], ◌++◌, length, get_or, take, drop, IfOk as made, Some, None, Ok, Err, Decides, Option, Result, sym, refl, ap, ◌∙◌, subst, subst₂, inl, inr, ⊎_elim, arith}
use Rattle.std.specs.Option.{MatchOption}
use Rattle.std.specs.Array.{IsFirstChunk, IsWholeChunk}
use Rattle.std.proofs.lemmas.List.{append_assoc, drop-append-le, length-append, length-take-le, take-append-drop, take-append-le, take_at}
use Rattle.std.proofs.lemmas.Bool.{and_parts, and_from, both_ways, false_from_ne_true, cases_lt, eqb-true, eq-eqb}
use Rattle.plant.specs.Meaning.{Meaning, Within, states, settings}
use Rattle.plant.specs.Lasting.{Open}
use Rattle.plant.proofs.Assignments.{largest_open}
use Rattle.plant.proofs.Bits.{bit_beyond}
use Rattle.plant.proofs.Firsts.{first_below}
use Rattle.plant.specs.Bits.{bit}
use Rattle.rules.specs.Listing.{rules_of}
use Rattle.rules.specs.declared.Rule.{Rule}
use Rattle.draft.specs.Outcome.{Filled, WentThrough, TurnedAway}
use Rattle.draft.specs.Rows.{open_in}
use Rattle.draft.specs.Starts.{Lost}
use Rattle.filling.specs.Writing.{Wrote}
use Rattle.draft.specs.declared.fault.DraftFault.{DraftFault}
use Rattle.draft.specs.declared.fault.DraftFault.TheVariants.{LostStart, RowCount as DraftRowCount, RulePlaces as DraftRulePlaces}
use Rattle.draft.proofs.Largest.{rows_size}
use Rattle.plan.specs.Admitted.{Admitted}
use Rattle.plan.specs.Judging.{judge}
use Rattle.plan.specs.Kept.{Fails, Pleads}
use Rattle.plan.specs.Machine.{Parts, plan_meaning}
use Rattle.plan.specs.Refused.{Stores}
use Rattle.plan.specs.Sound.{plan_within}
use Rattle.plan.specs.declared.fault.PlanFault.{PlanFault}
use Rattle.plan.specs.declared.fault.PlanFault.TheVariants.{Bytes, HeadMisplaced, SizeLimits, TooManyClauses, Malformed, Loop, Clash, Memory}
use Rattle.sheet_call.specs.Faults.{sheet_refusal}
use Rattle.sheet_call.specs.Making.{refused, text_of_refusal, lost_start, drafted, with_rows, sheet_of_plan, sheet_of}
use Rattle.sheet_call.specs.Outcome.{Lent, lent, onto, written, answered, NoMemory, ShowsOpen, DraftedSheet, AsComputed, MadeOrNot, SheetCall}
use Rattle.sheet_call.specs.Page.{sheet_text, digit, digit_place}
use Rattle.sheet_call.proofs.Front.{front_decides}
use Rattle.sheet_call.proofs.Lengths.{digit_there}
use Rattle.sheet_call.specs.Room.{text_needed, rows_needed, rules_needed}
use Rattle.sheet_call.specs.Steps.{PlanDrafted, LinesWritten, Tried}
use Rattle.sheet_call.specs.declared.Sheet.{Sheet}
use Rattle.sheet_call.specs.declared.fault.SheetFault.{SheetFault}
use Rattle.sheet_call.specs.declared.fault.SheetFault.TheVariants.{TextLength, RowCount, RulePlaces, Plan, Draft}

-- r is the first number below n that passes, if any does
abbrev First : (ℕ → Bool) → ℕ → Option ℕ → Type 0
First p n r = MatchOption r ((k : ℕ) → k < n → p k ≡ false) (λ i. (i < n) × (p i ≡ true) × ((k : ℕ) → k < i → p k ≡ false))

found_none : (p : ℕ → Bool) (n : ℕ) → ((k : ℕ) → k < n → p k ≡ false) → (r : Option ℕ) → First p n r → r ≡ None
found_none p n none None h = refl
found_none p n none (Some i) h = absurd (both_ways (p i) (none i h.0) h.1)

found_some : (p : ℕ → Bool) (n t : ℕ) → t < n → p t ≡ true → ((k : ℕ) → k < t → p k ≡ false) → (r : Option ℕ) → First p n r → r ≡ Some t
found_some p n t lt here before None h = absurd (both_ways (p t) (h t lt) here)
found_some p n t lt here before (Some i) h =
    ⊎_elim (λ below. absurd (both_ways (p i) (before i below) h.1))
    (λ from. ⊎_elim (λ above. absurd (both_ways (p t) (h.2 t above) here)) (λ past. let is : i ≡ t = omega arith in ap (λ k. Some k) is) (cases_lt t i))
    (cases_lt i t)

-- where every start has an open setting, none is lost
none_lost : (m : Meaning) (rows : List ℕ) → ((t : ℕ) → m.start t ≡ true → (a : ℕ) × (open_in rows t a ≡ true)) → lost_start m rows ≡ None
none_lost m rows starts =
    let lost : ℕ → Bool = λ t. m.start t && eqb (get_or rows t 0) 0 in
    found_none lost (states m)
    (λ k lt.
    false_from_ne_true (lost k)
    (λ e.
    let parts = and_parts (m.start k) (eqb (get_or rows k 0) 0) e in
    let w = starts k parts.0 in
    both_ways (bit 0 w.0) (bit_beyond 0 0 w.0 (omega arith) (omega arith)) (subst (λ x. bit x w.0 ≡ true) (eqb-true _ _ parts.1) w.1)))
    (lost_start m rows) (first_below lost (states m))

one_lost : (m : Meaning) → Within m → (rows : List ℕ) (t : ℕ) → Lost m rows t → lost_start m rows ≡ Some t
one_lost m within rows t lost =
    let test : ℕ → Bool = λ k. m.start k && eqb (get_or rows k 0) 0 in
    found_some test (states m) t (within.start_state t lost.start)
    (and_from (m.start t) _ lost.start (eq-eqb _ _ lost.empty))
    (λ k lt.
    false_from_ne_true (test k)
    (λ e. let parts = and_parts (m.start k) (eqb (get_or rows k 0) 0) e in lost.lowest k lt parts.0 (eqb-true _ _ parts.1)))
    (lost_start m rows) (first_below test (states m))

-- a fault of reading is the one that is computed, or memory was wanting
fails_cases : {Y : Type 0} (expected : Result Y PlanFault) (f : PlanFault) → Fails expected f → (f ≡ Memory) ⊎ (expected ≡ Err f)
fails_cases expected (Bytes f) e = inr e
fails_cases expected (HeadMisplaced o) e = inr e
fails_cases expected SizeLimits e = inr e
fails_cases expected (TooManyClauses o) e = inr e
fails_cases expected (Malformed o) e = inr e
fails_cases expected (Loop l) e = inr e
fails_cases expected (Clash o) e = inr e
fails_cases expected Memory e = inl refl

lent_same : {t t' r r' : List ℕ} {s s' : List Rule} → t ≡ t' → r ≡ r' → s ≡ s' → lent t r s ≡ lent t' r' s'
lent_same {t} {t'} {r} {r'} {s} {s'} p q e = ap (λ x. lent x r s) p ∙ ap (λ x. lent t' x s) q ∙ ap (λ x. lent t' r' x) e

sheet_same : {n n' : ℕ} {a a' : Result ℕ SheetFault} → n ≡ n' → a ≡ a' → ◌≡◌ {A = Sheet} (record { length = n; rules = a }) (record { length = n'; rules = a' })
sheet_same {n} {n'} {a} {a'} p q = ap (λ x. record { length = x; rules = a }) p ∙ ap (λ x. record { length = n'; rules = x }) q

-- what is written from the first place on
wrote_size : {X : Type 0} {before after : List X} {end : ℕ} {xs : List X} → Wrote before after 0 end xs → end ≡ length xs
wrote_size w = let e = w.ends in omega arith

pub wrote_within : {X : Type 0} {before after : List X} {end : ℕ} {xs : List X} → Wrote before after 0 end xs → end ≤ length after
wrote_within {X} {before} {after} {end} {xs} w =
    let e = wrote_size w in
    let s = ap length w.places in
    let l = length-append xs (drop end before) in
    omega arith

wrote_onto : {X : Type 0} {before after : List X} {end : ℕ} {xs : List X} → Wrote before after 0 end xs → after ≡ onto xs before
wrote_onto {X} {before} {after} {end} {xs} w = w.places ∙ ap (λ k. xs ++ drop k before) (wrote_size w)

ok_same : {X Y : Type 0} {e : Result X Y} {p q : X} → e ≡ Ok p → e ≡ Ok q → p ≡ q
ok_same h g = cc

never_both : {X Y : Type 0} {e : Result X Y} {p : X} {f : Y} → e ≡ Ok p → e ≡ Err f → ⊥
never_both h g = let z : ◌≡◌ {A = ℕ} 0 1 = cc in omega arith

-- the lines of the rows of the states
pub lines_of : (m : Meaning) (text text' rows : List ℕ) (len j a : ℕ) → j ≡ states m → a ≡ settings m → j ≤ length rows → Wrote text text' 0 len (sheet_text (length (take j rows)) a (open_in (take j rows))) → Wrote text text' 0 len (sheet_text (states m) (settings m) (open_in (take (states m) rows)))
lines_of m text text' rows len j a is_states is_settings few w =
    subst (λ xs. Wrote text text' 0 len xs)
    (ap (λ k. sheet_text k a (open_in (take j rows))) (length-take-le j rows few ∙ is_states)
    ∙ ap (λ k. sheet_text (states m) k (open_in (take j rows))) is_settings
    ∙ ap (λ k. sheet_text (states m) (settings m) (open_in (take k rows))) is_states)
    w

-- the text of the rows shows what is open
shows_open : (m : Meaning) → Within m → (rows : List ℕ) → Filled m rows → (text : List ℕ) → text ≡ sheet_text (states m) (settings m) (open_in rows) → ShowsOpen m text
shows_open m within rows filled text is = record {
  shown = open_in rows;
  lines = is;
  decided = decides;
  ones = λ s a o.
      place s a (within.safe_state s a o.0) (within.safe_setting s a o.0) ∙ ap digit ((decides s a).1 o);
  zeros = λ s a s_lt a_lt no. place s a s_lt a_lt ∙ ap digit (false_from_ne_true (open_in rows s a) (λ e. no ((decides s a).0 e)));
}
  where
    decides : (s a : ℕ) → Decides (open_in rows s a) (Open m s a)
    decides s a = largest_open m within (open_in rows) filled.largest s a

    place : (s a : ℕ) → s < states m → a < settings m → get_or text (digit_place (settings m) s a) 0 ≡ digit (open_in rows s a)
    place s a s_lt a_lt = ap (λ xs. get_or xs (digit_place (settings m) s a) 0) is ∙ digit_there (settings m) (open_in rows) s a a_lt (states m) s_lt

module _ (bytes rows rows' : List ℕ) (rules rules' : List Rule) (d : Result ℕ DraftFault) (done : PlanDrafted bytes rows rows' rules rules' d) where
  abbrev m : Meaning
  m = plan_meaning done.parts

  abbrev first : List ℕ
  first = take (states m) rows'

  within : Within m
  within = plan_within done.parts done.admitted.well_formed.sizes

  first_onto : Filled m first → rows' ≡ onto first rows
  first_onto filled =
      let size : states m ≡ length first = sym (ap length filled.computed ∙ rows_size m within) in
      done.first_rows.others ∙ ap (λ k. first ++ drop k rows) size

  computed : Filled m first → sheet_of bytes ≡ with_rows m first
  computed filled = ap sheet_of_plan done.judged ∙ ap (with_rows m) (sym filled.computed)

  -- what holds of the plan holds of whatever plan the bytes are judged to be
  each_plan : (before after : Lent) (r : Sheet) → DraftedSheet m before after r → (p : Parts) → judge bytes ≡ Ok p → Admitted p × DraftedSheet (plan_meaning p) before after r
  each_plan before after r sheet p e = subst (λ q. Admitted q × DraftedSheet (plan_meaning q) before after r) (ok_same done.judged e) (done.admitted, sheet)

module _ (bytes text rows : List ℕ) (rules : List Rule) where
  abbrev before : Lent
  before = lent text rows rules

  pub lines_computed : (text' rows' : List ℕ) (rules' : List Rule) (r : Sheet) → LinesWritten bytes before (lent text' rows' rules') r → AsComputed bytes before (lent text' rows' rules') r
  lines_computed text' rows' rules' r w =
      let d = Ok w.count in
      let done = w.plan in
      let meant : Meaning = plan_meaning done.parts in
      let fst = take (states meant) rows' in
      let rs = rules_of meant.bits meant.lines fst in
      let shown = sheet_text (states meant) (settings meant) (open_in fst) in
      let gone : WentThrough meant fst rules rules' w.count = done.first_rows.promised in
      let made : sheet_of bytes ≡ drafted meant fst None = computed bytes rows rows' rules rules' d done gone.filled ∙ ap (drafted meant fst) (none_lost meant fst gone.starts) in
      record {
        memory = lent_same (wrote_onto w.text) (first_onto bytes rows rows' rules rules' d done gone.filled) (gone.rules ∙ ap (λ k. rs ++ drop k rules) gone.number)
            ∙ ap (λ x. written x before) (sym made);
        answer = sheet_same (wrote_size w.text) (w.answer ∙ ap (λ k. Ok k) gone.number) ∙ ap answered (sym made);
        first_bytes = ap sheet_of_plan (front_decides bytes);
        plan = each_plan bytes rows rows' rules rules' d done before (lent text' rows' rules') r (record {
          draft = d;
          answer = w.answer;
          promised = gone;
          shown = λ n e. shows_open meant (within bytes rows rows' rules rules' d done) fst gone.filled (take r.length text')
              (ap (take r.length) w.text.places ∙ take_at shown (drop r.length text) r.length (sym (wrote_size w.text)));
        });
      }

  lost_computed : (text' rows' : List ℕ) (rules' : List Rule) (len t : ℕ) → PlanDrafted bytes rows rows' rules rules' (Err (LostStart t)) → Wrote text text' 0 len (text_of_refusal (sheet_refusal (Draft (LostStart t)))) → AsComputed bytes before (lent text' rows' rules') (record { length = len; rules = Err (Draft (LostStart t)) })
  lost_computed text' rows' rules' len t done w =
      let d : Result ℕ DraftFault = Err (LostStart t) in
      let meant : Meaning = plan_meaning done.parts in
      let fst = take (states meant) rows' in
      let away : TurnedAway meant fst rules rules' t = done.first_rows.promised in
      let made : sheet_of bytes ≡ drafted meant fst (Some t) = computed bytes rows rows' rules rules' d done away.filled ∙ ap (drafted meant fst) (one_lost meant (within bytes rows rows' rules rules' d done) fst t away.lost) in
      record {
        memory = lent_same (wrote_onto w) (first_onto bytes rows rows' rules rules' d done away.filled) away.same ∙ ap (λ x. written x before) (sym made);
        answer = sheet_same (wrote_size w) refl ∙ ap answered (sym made);
        first_bytes = ap sheet_of_plan (front_decides bytes);
        plan = each_plan bytes rows rows' rules rules' d done before (lent text' rows' rules') _ (record {
          draft = d;
          answer = refl;
          promised = away;
          shown = λ n e. absurd (never_both e refl);
        });
      }

  plan_computed : (text' : List ℕ) (len : ℕ) (f : PlanFault) → judge bytes ≡ Err f → Wrote text text' 0 len (text_of_refusal (sheet_refusal (Plan f))) → AsComputed bytes before (lent text' rows rules) (record { length = len; rules = Err (Plan f) })
  plan_computed text' len f e w =
      let made : sheet_of bytes ≡ refused [] (Plan f) = ap sheet_of_plan e in
      record {
        memory = lent_same (wrote_onto w) refl refl ∙ ap (λ x. written x before) (sym made);
        answer = sheet_same (wrote_size w) refl ∙ ap answered (sym made);
        first_bytes = ap sheet_of_plan (front_decides bytes);
        plan = λ p ok. absurd (never_both ok e);
      }

  pub refusal_computed : (text₁ text' rows' : List ℕ) (rules' : List Rule) (len : ℕ) (f : SheetFault) → Tried bytes before (lent text₁ rows' rules') (Err f) → Wrote text₁ text' 0 len (text_of_refusal (sheet_refusal f)) →
      NoMemory bytes before (lent text' rows' rules') (record { length = len; rules = Err f }) ⊎ AsComputed bytes before (lent text' rows' rules') (record { length = len; rules = Err f })
  refusal_computed text₁ text' rows' rules' len (TextLength n) tried w = absurd tried
  refusal_computed text₁ text' rows' rules' len (RowCount n) tried w = absurd tried
  refusal_computed text₁ text' rows' rules' len (RulePlaces n) tried w = absurd tried
  refusal_computed text₁ text' rows' rules' len (Plan f) tried w =
      let same = tried.2 in
      let w' : Wrote text text' 0 len (text_of_refusal (sheet_refusal (Plan f))) = subst (λ xs. Wrote xs text' 0 len (text_of_refusal (sheet_refusal (Plan f)))) (ap (λ x. x.text) same) w in
      let answer : Sheet = record { length = len; rules = Err (Plan f) } in
      subst₂ (λ a b. NoMemory bytes before (lent text' a b) answer ⊎ AsComputed bytes before (lent text' a b) answer) (sym (ap (λ x. x.rows) same)) (sym (ap (λ x. x.rules) same))
      (⊎_elim
      (λ wanting.
      let none : Wrote text text' 0 len [] = subst (λ k. Wrote text text' 0 len (text_of_refusal (sheet_refusal (Plan k)))) wanting w' in
      inl (subst (λ k. Pleads (Stores bytes) k) wanting tried.1, (lent_same (wrote_onto none) refl refl, sheet_same (wrote_size none) (ap (λ k. Err (Plan k)) wanting))))
      (λ e. inr (plan_computed text' len f e w'))
      (fails_cases (judge bytes) f tried.0))
  refusal_computed text₁ text' rows' rules' len (Draft (DraftRowCount n)) tried w = absurd tried.0.first_rows.promised
  refusal_computed text₁ text' rows' rules' len (Draft (DraftRulePlaces n)) tried w = absurd tried.0.first_rows.promised
  refusal_computed text₁ text' rows' rules' len (Draft (LostStart t)) tried w =
      inr (lost_computed text' rows' rules' len t tried.0 (subst (λ xs. Wrote xs text' 0 len (text_of_refusal (sheet_refusal (Draft (LostStart t))))) tried.1 w))

-- the text is within the bytes lent
pub lines_within : (bytes : List ℕ) (lent_before lent_after : Lent) (r : Sheet) → LinesWritten bytes lent_before lent_after r → r.length ≤ length lent_after.text
lines_within bytes lent_before lent_after r w = wrote_within w.text

-- what is made in the first part of a text is made in the whole of it
pub made_in_part : (bytes text text' rest rows rows' : List ℕ) (rules rules' : List Rule) (r : Sheet) → r.length ≤ length text → length text' ≡ length text → MadeOrNot bytes (lent text rows rules) (lent text' rows' rules') r → MadeOrNot bytes (lent (text ++ rest) rows rules) (lent (text' ++ rest) rows' rules') r
made_in_part bytes text text' rest rows rows' rules rules' r fits same here =
    ⊎_elim
    (λ none. inl (none.0, (ap (λ x. lent (x.text ++ rest) x.rows x.rules) none.1.0, none.1.1)))
    (λ all.
    let made = sheet_of bytes in
    let size : r.length ≡ length made.text = ap (λ x. x.length) all.answer in
    let more : text' ++ rest ≡ onto made.text (text ++ rest) =
    ap (λ x. x.text ++ rest) all.memory ∙ append_assoc made.text (drop (length made.text) text) rest
    ∙ ap (λ xs. made.text ++ xs) (sym (drop-append-le (length made.text) text rest (omega arith))) in
    inr (record {
      memory = ap (λ x. lent (text' ++ rest) x.rows x.rules) all.memory ∙ ap (λ x. lent x (onto made.rows rows) (onto made.rules rules)) more;
      answer = all.answer;
      first_bytes = all.first_bytes;
      plan = λ p e.
          let w = all.plan p e in (
            w.0,
            record {
              draft = w.1.draft;
              answer = w.1.answer;
              promised = w.1.promised;
              shown = λ n ok. subst (ShowsOpen (plan_meaning p)) (sym (take-append-le r.length text' rest (omega arith))) (w.1.shown n ok);
            },
          );
    }))
    here

-- the first part of a text and the rest are the text
whole : {X : Type 0} {xs part : List X} {n : ℕ} → IsFirstChunk xs part n → part ++ drop n xs ≡ xs
whole {X} {xs} {part} {n} first = ap (λ ys. ys ++ drop n xs) first.same ∙ take-append-drop n xs

module _ (bytes text part rows : List ℕ) (rules : List Rule) (first : IsFirstChunk text part text_needed) where
  -- another number of rows is lent
  pub rows_refused : (r : Sheet) → (length rows ≢ rows_needed) → r ≡ record { length = 0; rules = Err (RowCount rows_needed) } → SheetCall bytes (lent text rows rules) (lent (part ++ drop text_needed text) rows rules) r
  rows_refused r wrong is = record {
    short_text = λ short. absurd (let long = first.enough in omega arith);
    wrong_rows = λ long no. (ap (λ xs. lent xs rows rules) (whole first), is);
    wrong_places = λ long right no. absurd (wrong right);
    made = λ long right places. absurd (wrong right);
  }

  -- another number of places for rules is lent
  pub places_refused : (rows' : List ℕ) (r : Sheet) → IsWholeChunk rows rows' rows_needed → (length rules ≢ rules_needed) → r ≡ record { length = 0; rules = Err (RulePlaces rules_needed) } → SheetCall bytes (lent text rows rules) (lent (part ++ drop text_needed text) rows' rules) r
  places_refused rows' r right wrong is = record {
    short_text = λ short. absurd (let long = first.enough in omega arith);
    wrong_rows = λ long no. absurd (no right.long);
    wrong_places = λ long e no. (ap (λ xs. lent xs rows' rules) (whole first) ∙ ap (λ xs. lent text xs rules) right.same, is);
    made = λ long e places. absurd (wrong places);
  }

  -- memory of the right lengths
  pub room_right : (part' first_rows rows' : List ℕ) (first_rules rules' : List Rule) (r : Sheet) → IsWholeChunk rows first_rows rows_needed → IsWholeChunk rules first_rules rules_needed → r.length ≤ length part' → length part' ≡ text_needed →
      MadeOrNot bytes (lent part first_rows first_rules) (lent part' rows' rules') r → SheetCall bytes (lent text rows rules) (lent (part' ++ drop text_needed text) rows' rules') r
  room_right part' first_rows rows' first_rules rules' r right places within size made =
      let long = first.enough in
      let same : length part ≡ text_needed = ap length first.same ∙ length-take-le text_needed text first.enough in
      record {
        short_text = λ short. absurd (omega arith);
        wrong_rows = λ l no. absurd (no right.long);
        wrong_places = λ l e no. absurd (no places.long);
        made = λ l e g.
            subst (λ before. MadeOrNot bytes before (lent (part' ++ drop text_needed text) rows' rules') r)
            (lent_same (whole first) right.same places.same)
            (made_in_part bytes part part' (drop text_needed text) first_rows rows' first_rules rules' r (omega arith) (omega arith) made);
      }
