-- Sessions by stands, read as strings of calls. Assumes nothing.
use Rattle.std.proofs.Common.{◌≡◌, ℕ, Bool, true, false, cond, ◌&&◌, ltb, List, [], ◌∷◌, is_ok, Ok, Err, Result, sym, refl, ap, ◌∙◌, subst, ap₂, ⊎_elim}
use mathlib.Core.List.Memᴰ
use mathlib.Core.List.{Memᴰ}
use Rattle.std.proofs.lemmas.Bool.{false≢true}
use Rattle.plant.specs.Lasting.{Open}
use Rattle.plant.specs.Meaning.{Meaning, Within, states, settings}
use Rattle.reader.specs.Law.{Lawful, Permitted}
use Rattle.reader.specs.Step.{Answer, answer, after, fits_there}
use Rattle.reader.specs.Strings.{Faithful, answers, phase_after, happened}
use Rattle.reader.specs.declared.call.Call.{Call}
use Rattle.reader.specs.declared.call.Call.TheVariants.{Begin, Set, See, Close}
use Rattle.reader.specs.declared.fault.LogFault.{LogFault}
use Rattle.reader.specs.declared.fault.LogFault.TheVariants.{OutOfTurn, BeyondSizes, NoStart, Misfit, NotFollowing}
use Rattle.reader.specs.declared.phase.Phase.{Phase}
use Rattle.reader.specs.declared.phase.Phase.TheVariants.{Closed, Poised, Driven}
use Rattle.reader.proofs.Keeping.{state_in, keeps_law, next_decides}
use Rattle.reader.proofs.Steps.{offered_decides}
use Rattle.rules.specs.declared.Rule.{Rule}
use Rattle.stands.specs.Moves.{or_back}
use Rattle.stands.specs.Sessions.{Held, nothing, for_setting, for_sighting, phase_of, Began, Moved, ByStand, ByStands, InTurn, Sessions, LawfulSessions}
use Rattle.stands.specs.Suggestion.{LowestFit}
use Rattle.stands.specs.declared.either.AwaitsSetting.{AwaitsSetting}
use Rattle.stands.proofs.Lowest.{lowest_fit}

-- whether an answer says that the call was out of turn
abbrev out_of_turn : Answer → Bool
out_of_turn (Ok _) = false
out_of_turn (Err (OutOfTurn p)) = true
out_of_turn (Err (BeyondSizes k)) = false
out_of_turn (Err (NoStart t)) = false
out_of_turn (Err (Misfit a)) = false
out_of_turn (Err (NotFollowing t)) = false

-- how a number is judged: below the size, and passing the test
abbrev judged : {X : Type 0} → Bool → Bool → ℕ → LogFault → X → Result X LogFault
judged small test k fault x = cond small (cond test (Ok x) (Err fault)) (Err (BeyondSizes k))

judged_in_turn : (small test : Bool) (k : ℕ) (fault : LogFault) → out_of_turn (Err fault) ≡ false → out_of_turn (judged small test k fault tt) ≡ false
judged_in_turn true true k fault own = refl
judged_in_turn true false k fault own = own
judged_in_turn false test k fault own = refl

-- a begin answers as the reader does, and leads to the same phase
began_as_read : (small test : Bool) (t : ℕ) (g : Answer) (h : Held) → Began (judged small test t (NoStart t) (record { state = t })) g h → (g ≡ judged small test t (NoStart t) tt) × (phase_of h ≡ cond (small && test) (Poised t) Closed)
began_as_read true true t g h b = (b.0, ap phase_of b.1)
began_as_read true false t g h b = (b.0, ap phase_of b.1)
began_as_read false test t g h b = (b.0, ap phase_of b.1)

began : (small test : Bool) (t : ℕ) → (h : Held) × Began (judged small test t (NoStart t) (record { state = t })) (judged small test t (NoStart t) tt) h
began true true t = (for_setting (record { state = t }), (refl, refl))
began true false t = (nothing, (refl, refl))
began false test t = (nothing, (refl, refl))

-- so does a set or a see
module _ {X Y : Type 0} (back : X → Held) (on : Y → Held) (x : X) (y : Y) (k : ℕ) (fault : LogFault) where
  moved_as_read : (small test : Bool) (g : Answer) (h : Held) → Moved back on (or_back x (judged small test k fault y)) g h → (g ≡ judged small test k fault tt) × (phase_of h ≡ cond (small && test) (phase_of (on y)) (phase_of (back x)))
  moved_as_read true true g h b = (b.0, ap phase_of b.1)
  moved_as_read true false g h b = (b.0, ap phase_of b.1)
  moved_as_read false test g h b = (b.0, ap phase_of b.1)

  moved : (small test : Bool) → (h : Held) × Moved back on (or_back x (judged small test k fault y)) (judged small test k fault tt) h
  moved true true = (on y, (refl, refl))
  moved true false = (back x, (refl, refl))
  moved false test = (back x, (refl, refl))

module _ (m : Meaning) (rs : List Rule) where
  as_read : (h : Held) (c : Call) (g : Answer) (j : Held) → ByStand m rs h c g j → (g ≡ answer m rs (phase_of h) c) × (phase_of j ≡ after m rs (phase_of h) c)
  as_read nothing (Begin t) g j b = began_as_read (ltb t (states m)) (m.start t) t g j b
  as_read nothing (Set a) g j b = absurd b
  as_read nothing (See t) g j b = absurd b
  as_read nothing Close g j b = absurd b
  as_read (for_setting x) (Begin t) g j b = absurd b
  as_read (for_setting x) (Set a) g j b =
      moved_as_read for_setting for_sighting x (record { state = x.state; setting = a }) a (Misfit a) (ltb a (settings m)) (fits_there m rs x.state a) g j b
  as_read (for_setting x) (See t) g j b = absurd b
  as_read (for_setting x) Close g j b = (b.0, ap phase_of b.1)
  as_read (for_sighting y) (Begin t) g j b = absurd b
  as_read (for_sighting y) (Set a) g j b = absurd b
  as_read (for_sighting y) (See t) g j b =
      moved_as_read for_sighting for_setting y (record { state = t }) t (NotFollowing t) (ltb t (states m)) (m.follows y.state y.setting t) g j b
  as_read (for_sighting y) Close g j b = (b.0, ap phase_of b.1)

  call_in_turn : (h : Held) (c : Call) (g : Answer) (j : Held) → ByStand m rs h c g j → out_of_turn g ≡ false
  call_in_turn h c g j b = ap out_of_turn (as_read h c g j b).0 ∙ of_call h c b
    where
      of_call : (h : Held) (c : Call) → ByStand m rs h c g j → out_of_turn (answer m rs (phase_of h) c) ≡ false
      of_call nothing (Begin t) b = judged_in_turn (ltb t (states m)) (m.start t) t (NoStart t) refl
      of_call nothing (Set a) b = absurd b
      of_call nothing (See t) b = absurd b
      of_call nothing Close b = absurd b
      of_call (for_setting x) (Begin t) b = absurd b
      of_call (for_setting x) (Set a) b = judged_in_turn (ltb a (settings m)) (fits_there m rs x.state a) a (Misfit a) refl
      of_call (for_setting x) (See t) b = absurd b
      of_call (for_setting x) Close b = refl
      of_call (for_sighting y) (Begin t) b = absurd b
      of_call (for_sighting y) (Set a) b = absurd b
      of_call (for_sighting y) (See t) b = judged_in_turn (ltb t (states m)) (m.follows y.state y.setting t) t (NotFollowing t) refl
      of_call (for_sighting y) Close b = refl

  -- a call that is not out of turn can be made by what is held
  call_by_stand : (h : Held) (c : Call) → ((p : Phase) → Err (OutOfTurn p) ≡ answer m rs (phase_of h) c → ⊥) → (j : Held) × ByStand m rs h c (answer m rs (phase_of h) c) j
  call_by_stand nothing (Begin t) turn = began (ltb t (states m)) (m.start t) t
  call_by_stand nothing (Set a) turn = absurd (turn Closed refl)
  call_by_stand nothing (See t) turn = absurd (turn Closed refl)
  call_by_stand nothing Close turn = absurd (turn Closed refl)
  call_by_stand (for_setting x) (Begin t) turn = absurd (turn (Poised x.state) refl)
  call_by_stand (for_setting x) (Set a) turn =
      moved for_setting for_sighting x (record { state = x.state; setting = a }) a (Misfit a) (ltb a (settings m)) (fits_there m rs x.state a)
  call_by_stand (for_setting x) (See t) turn = absurd (turn (Poised x.state) refl)
  call_by_stand (for_setting x) Close turn = (nothing, (refl, refl))
  call_by_stand (for_sighting y) (Begin t) turn = absurd (turn (Driven y.state y.setting) refl)
  call_by_stand (for_sighting y) (Set a) turn = absurd (turn (Driven y.state y.setting) refl)
  call_by_stand (for_sighting y) (See t) turn =
      moved for_sighting for_setting y (record { state = t }) t (NotFollowing t) (ltb t (states m)) (m.follows y.state y.setting t)
  call_by_stand (for_sighting y) Close turn = (nothing, (refl, refl))

  same_answers : (h : Held) (calls : List Call) (given : List Answer) (k : Held) → ByStands m rs h calls given k → given ≡ answers m rs (phase_of h) calls
  same_answers h [] [] k b = refl
  same_answers h [] (g ∷ gs) k b = absurd b
  same_answers h (c ∷ cs) [] k b = absurd b
  same_answers h (c ∷ cs) (g ∷ gs) k b =
      let here = as_read h c g b.0 b.1 in
      ap₂ (λ (x : Answer) xs. x ∷ xs) here.0 (same_answers b.0 cs gs k b.2 ∙ ap (λ p. answers m rs p cs) here.1)

  same_phase : (h : Held) (calls : List Call) (given : List Answer) (k : Held) → ByStands m rs h calls given k → phase_of k ≡ phase_after m rs (phase_of h) calls
  same_phase h [] [] k b = ap phase_of b
  same_phase h [] (g ∷ gs) k b = absurd b
  same_phase h (c ∷ cs) [] k b = absurd b
  same_phase h (c ∷ cs) (g ∷ gs) k b =
      same_phase b.0 cs gs k b.2 ∙ ap (λ p. phase_after m rs p cs) (as_read h c g b.0 b.1).1

  in_turn : (h : Held) (calls : List Call) (given : List Answer) (k : Held) → ByStands m rs h calls given k → InTurn given
  in_turn h [] [] k b p here = Memᴰ.not-nil here
  in_turn h [] (g ∷ gs) k b p here = b
  in_turn h (c ∷ cs) [] k b p here = b
  in_turn h (c ∷ cs) (g ∷ gs) k b p here =
      ⊎_elim
      (λ is. false≢true (sym (call_in_turn h c g b.0 b.1) ∙ ap out_of_turn (sym is)))
      (λ later. in_turn b.0 cs gs k b.2 p later)
      (Memᴰ.cases_cons here)

  every : (h : Held) (calls : List Call) → InTurn (answers m rs (phase_of h) calls) → (k : Held) × ByStands m rs h calls (answers m rs (phase_of h) calls) k
  every h [] turn = (h, refl)
  every h (c ∷ cs) turn =
      let step = call_by_stand h c (λ p e. turn p (Memᴰ.head e)) in
      let on : phase_of step.0 ≡ after m rs (phase_of h) c = (as_read h c _ step.0 step.1).1 in
      let rest = every step.0 cs (subst (λ q. InTurn (answers m rs q cs)) (sym on) (λ p here. turn p (Memᴰ.tail here))) in
      (rest.0, (step.0, step.1, subst (λ q. ByStands m rs step.0 cs (answers m rs q cs) rest.0) on rest.1))

  pub sessions : Sessions m rs
  sessions = record {
    same_answers = same_answers nothing;
    same_phase = same_phase nothing;
    in_turn = in_turn nothing;
    every = every nothing;
  }

  pub lawful_sessions : Within m → Faithful m rs → LawfulSessions m rs
  lawful_sessions within faithful = record { law = law; suggested = suggested }
    where
      law : (calls : List Call) (given : List Answer) (h : Held) → ByStands m rs nothing calls given h → Lawful m (happened calls given) (phase_of h)
      law calls given h b =
          subst (λ gs. Lawful m (happened calls gs) (phase_of h)) (sym (same_answers nothing calls given h b))
          (subst (λ p. Lawful m (happened calls (answers m rs Closed calls)) p) (sym (same_phase nothing calls given h b)) ((keeps_law m within rs faithful).lawful calls))

      -- a setting that would be taken next leaves the machine where it can be kept safe
      taken_open : (calls : List Call) (s a : ℕ) → phase_after m rs Closed calls ≡ Poised s → is_ok (answer m rs (Poised s) (Set a)) ≡ true → Open m s a
      taken_open calls s a at ok =
          let w = (next_decides m within rs faithful calls (Set a)).0 (subst (λ p. is_ok (answer m rs p (Set a)) ≡ true) (sym at) ok) in
          subst (λ k. Open m k a) (ap state_in (sym w.1 ∙ at)) w.2

      suggested : (calls : List Call) (given : List Answer) (x : AwaitsSetting) → ByStands m rs nothing calls given (for_setting x) → (a : ℕ) × LowestFit m rs x.state a × Open m x.state a
      suggested calls given x b =
          let at : phase_after m rs Closed calls ≡ Poised x.state = sym (same_phase nothing calls given (for_setting x) b) in
          let some = (law calls given (for_setting x) b).some_setting x.state refl in
          let taken = subst (λ p. is_ok (answer m rs p (Set some.0)) ≡ true) at ((next_decides m within rs faithful calls (Set some.0)).1 (subst (λ p. Permitted m p (Set some.0)) (sym at) some.1)) in
          let fits = (offered_decides (settings m) some.0 (fits_there m rs x.state some.0) (Misfit some.0)).0 taken in
          let low = lowest_fit m rs x.state some.0 fits.0 fits.1 in
          (low.0, low.1, taken_open calls x.state low.0 at ((offered_decides (settings m) low.0 (fits_there m rs x.state low.0) (Misfit low.0)).1 (low.1.setting, low.1.fits)))
