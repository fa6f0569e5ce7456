-- Rules that say the same as the largest safe assignment keep the law over strings of calls. Assumes nothing.
use Rattle.std.proofs.Common.{◌≡◌, ℕ, ◌<◌, Bool, true, false, cond, List, [], ◌∷◌, ◌++◌, is_ok, Decides, sym, refl, ap, ◌∙◌, subst, arith}
use Rattle.std.proofs.lemmas.Bool.{false≢true}
use Rattle.plant.specs.Lasting.{Open}
use Rattle.plant.specs.Meaning.{Meaning, Within, states, settings}
use Rattle.plant.proofs.Assignments.{largest_open}
use Rattle.rules.specs.declared.Rule.{Rule}
use Rattle.reader.specs.Law.{Event, Lawful, Permitted, tells}
use Rattle.reader.specs.Shown.{phase_place}
use Rattle.reader.specs.Step.{answer, after, fits_there}
use Rattle.reader.specs.Strings.{Faithful, KeepsLaw, phase_after, session}
use Rattle.reader.specs.declared.call.Call.{Call}
use Rattle.reader.specs.declared.call.Call.TheVariants.{Begin, Set, See, Close}
use Rattle.reader.specs.declared.fault.LogFault.TheVariants.{NoStart, Misfit, NotFollowing}
use Rattle.reader.specs.declared.phase.Phase.{Phase}
use Rattle.reader.specs.declared.phase.Phase.TheVariants.{Closed, Poised, Driven}
use Rattle.reader.proofs.Steps.{offered_decides, agrees}
use Rattle.reader.proofs.Strings.{told_since, session_from, told_step, phase_told}

-- the parts of a phase, 0 where it has none
abbrev pub state_in : Phase → ℕ
state_in Closed = 0
state_in (Poised s) = s
state_in (Driven s a) = s

abbrev setting_in : Phase → ℕ
setting_in Closed = 0
setting_in (Poised s) = 0
setting_in (Driven s a) = a

-- two phases of different kinds are not the same
apart : (p q : Phase) → (phase_place p ≡ phase_place q → ⊥) → p ≡ q → ⊥
apart p q ne e = ne (ap phase_place e)

module _ (m : Meaning) (within : Within m) (rs : List Rule) (faithful : Faithful m rs) where
  abbrev assigned : ℕ → ℕ → Bool
  assigned = faithful.assigned

  -- a phase from which the machine can be kept safe for ever
  abbrev Good : Phase → Type 0
  Good Closed = Unit {0}
  Good (Poised s) = (b : ℕ) × (assigned s b ≡ true)
  Good (Driven s a) = assigned s a ≡ true

  opens : (s a : ℕ) → Decides (assigned s a) (Open m s a)
  opens = largest_open m within assigned faithful.largest

  -- when poised, those that fit are those that lead only into a lasting set
  set_decides : (s : ℕ) → Good (Poised s) → (a : ℕ) → Decides (is_ok (answer m rs (Poised s) (Set a))) (Permitted m (Poised s) (Set a))
  set_decides s good a =
      let d = offered_decides (settings m) a (fits_there m rs s a) (Misfit a) in (
        λ e.
            let w = d.0 e in
            (s, refl, (opens s a).0 (sym (faithful.reads s a good.0 w.0 good.1) ∙ w.1)),
        λ h.
            let open_here : Open m s a = subst (λ k. Open m k a) (sym (ap state_in h.1)) h.2 in
            let small : a < settings m = within.safe_setting s a open_here.0 in
            d.1 (small, faithful.reads s a good.0 small good.1 ∙ (opens s a).1 open_here),
      )

  see_decides : (s a t : ℕ) → Decides (is_ok (answer m rs (Driven s a) (See t))) (Permitted m (Driven s a) (See t))
  see_decides s a t =
      let d = offered_decides (states m) t (m.follows s a t) (NotFollowing t) in (
        λ e. (s, a, refl, (d.0 e).1),
        λ h.
            let here : m.follows s a t ≡ true = ap (λ q. m.follows (state_in q) (setting_in q) t) h.2 ∙ h.3 in
            d.1 (within.to_state s a t here, here),
      )

  begin_decides : (t : ℕ) → Decides (is_ok (answer m rs Closed (Begin t))) (Permitted m Closed (Begin t))
  begin_decides t =
      let d = offered_decides (states m) t (m.start t) (NoStart t) in
      (λ e. (refl, (d.0 e).1), λ h. d.1 (within.start_state t h.1, h.1))

  -- in a good phase a call is taken exactly when it is permitted
  decides : (p : Phase) → Good p → (c : Call) → Decides (is_ok (answer m rs p c)) (Permitted m p c)
  decides Closed good (Begin t) = begin_decides t
  decides Closed good (Set a) = (λ e. absurd (false≢true e), λ h. absurd (apart Closed (Poised h.0) (λ e. omega arith) h.1))
  decides Closed good (See t) = (λ e. absurd (false≢true e), λ h. absurd (apart Closed (Driven h.0 h.1) (λ e. omega arith) h.2))
  decides Closed good Close = (λ e. absurd (false≢true e), λ h. absurd (h refl))
  decides (Poised s) good (Begin t) = (λ e. absurd (false≢true e), λ h. absurd (apart (Poised s) Closed (λ e. omega arith) h.0))
  decides (Poised s) good (Set a) = set_decides s good a
  decides (Poised s) good (See t) = (λ e. absurd (false≢true e), λ h. absurd (apart (Poised s) (Driven h.0 h.1) (λ e. omega arith) h.2))
  decides (Poised s) good Close = (λ _. apart (Poised s) Closed (λ e. omega arith), λ _. refl)
  decides (Driven s a) good (Begin t) = (λ e. absurd (false≢true e), λ h. absurd (apart (Driven s a) Closed (λ e. omega arith) h.0))
  decides (Driven s a) good (Set b) = (λ e. absurd (false≢true e), λ h. absurd (apart (Driven s a) (Poised h.0) (λ e. omega arith) h.1))
  decides (Driven s a) good (See t) = see_decides s a t
  decides (Driven s a) good Close = (λ _. apart (Driven s a) Closed (λ e. omega arith), λ _. refl)

  -- a permitted call leads from a good phase to a good phase
  permitted_good : (p : Phase) → Good p → (c : Call) → Permitted m p c → Good (tells p c)
  permitted_good p good (Begin t) ok = faithful.starts t ok.1
  permitted_good Closed good (Set a) ok = tt
  permitted_good (Poised s) good (Set a) ok = (opens s a).1 (subst (λ k. Open m k a) (sym (ap state_in ok.1)) ok.2)
  permitted_good (Driven s b) good (Set a) ok = good
  permitted_good Closed good (See t) ok = absurd (apart Closed (Driven ok.0 ok.1) (λ e. omega arith) ok.2)
  permitted_good (Poised s) good (See t) ok = absurd (apart (Poised s) (Driven ok.0 ok.1) (λ e. omega arith) ok.2)
  permitted_good (Driven s a) good (See t) ok =
      faithful.largest.sound.again s a t good (ap (λ q. m.follows (state_in q) (setting_in q) t) ok.2 ∙ ok.3)
  permitted_good p good Close ok = tt

  step_good : (p : Phase) → Good p → (c : Call) → Good (after m rs p c)
  step_good p good c = subst (λ q. Good q) (sym (agrees m rs p c)) (by (is_ok (answer m rs p c)) refl)
    where
      by : (t : Bool) → is_ok (answer m rs p c) ≡ t → Good (cond t (tells p c) p)
      by true e = permitted_good p good c ((decides p good c).0 e)
      by false e = good

  all_good : (calls : List Call) (p : Phase) → Good p → Good (phase_after m rs p calls)
  all_good [] p good = good
  all_good (c ∷ cs) p good = all_good cs (after m rs p c) (step_good p good c)

  -- each call of a string is taken exactly when it is permitted
  each : (calls : List Call) (p : Phase) → Good p → (front back : List Event) (e : Event) → session_from m rs p calls ≡ front ++ (e ∷ back) → Decides e.taken (Permitted m (told_since p front) e.call)
  each [] p good [] back e eq = let z : ◌≡◌ {A = ℕ} 0 1 = cc in absurd (omega arith)
  each [] p good (x ∷ front) back e eq = let z : ◌≡◌ {A = ℕ} 0 1 = cc in absurd (omega arith)
  each (c ∷ cs) p good [] back e eq =
      let first : ◌≡◌ {A = Event} (record { call = c; taken = is_ok (answer m rs p c) }) e = cc in
      subst (λ (x : Event). Decides x.taken (Permitted m p x.call)) first (decides p good c)
  each (c ∷ cs) p good (x ∷ front) back e eq =
      let first : ◌≡◌ {A = Event} (record { call = c; taken = is_ok (answer m rs p c) }) x = cc in
      let rest : session_from m rs (after m rs p c) cs ≡ front ++ (e ∷ back) = cc in
      let same : told_since p (x ∷ front) ≡ told_since (after m rs p c) front =
      ap (λ (y : Event). told_since p (y ∷ front)) (sym first) ∙ told_step m rs p c front in
      subst (λ q. Decides e.taken (Permitted m q e.call)) (sym same) (each cs (after m rs p c) (step_good p good c) front back e rest)

  good_setting : (p : Phase) → Good p → (s : ℕ) → p ≡ Poised s → (a : ℕ) × Permitted m p (Set a)
  good_setting p good s e =
      let w : (b : ℕ) × (assigned s b ≡ true) = subst (λ q. Good q) e good in
      (w.0, (s, e, (opens s w.0).0 w.1))

  session_lawful : (calls : List Call) → Lawful m (session m rs calls) (phase_after m rs Closed calls)
  session_lawful calls = record {
    phase_told = phase_told m rs calls Closed;
    safe = λ front back a eq.
        let ok = (each calls Closed tt front back (record { call = Set a; taken = true }) eq).0 refl in
        (ok.0, ok.1, ok.2.0);
    exactly = λ front back e eq. each calls Closed tt front back e eq;
    some_setting = good_setting (phase_after m rs Closed calls) (all_good calls Closed tt);
  }

  -- after a string of calls the next is taken exactly when it is permitted
  pub next_decides : (calls : List Call) (c : Call) → Decides (is_ok (answer m rs (phase_after m rs Closed calls) c)) (Permitted m (phase_after m rs Closed calls) c)
  next_decides calls c = decides (phase_after m rs Closed calls) (all_good calls Closed tt) c

  pub keeps_law : KeepsLaw m rs
  keeps_law = record {
    lawful = session_lawful;
    next = λ calls c.
        subst (λ q. Decides (is_ok (answer m rs (phase_after m rs Closed calls) c)) (Permitted m q c)) (phase_told m rs calls Closed) (next_decides calls c);
    some_taken = λ calls s e.
        let w = good_setting (phase_after m rs Closed calls) (all_good calls Closed tt) s (phase_told m rs calls Closed ∙ e) in
        (w.0, (next_decides calls (Set w.0)).1 w.1);
  }
