-- Strings of calls, one call more at a time. Assumes nothing.
use Rattle.std.proofs.Common.{◌≡◌, suc, Bool, true, false, cond, List, [], ◌∷◌, ◌++◌, length, is_ok, sym, refl, ap, ◌∙◌}
use Rattle.plant.specs.Meaning.{Meaning}
use Rattle.rules.specs.declared.Rule.{Rule}
use Rattle.reader.specs.Law.{Event, taken_calls, tells, told_from}
use Rattle.reader.specs.Step.{answer, after}
use Rattle.reader.specs.Strings.{answers, phase_after, happened}
use Rattle.reader.specs.declared.call.Call.{Call}
use Rattle.reader.specs.declared.phase.Phase.{Phase}
use Rattle.reader.proofs.Steps.{agrees}

-- the phase told by what happened since phase p
abbrev pub told_since : Phase → List Event → Phase
told_since p es = told_from p (taken_calls es)

-- the first of what happened tells a phase, and the rest goes on from there
pub told_first : (p : Phase) (c : Call) (t : Bool) (es : List Event) → told_since p (record { call = c; taken = t } ∷ es) ≡ told_since (cond t (tells p c) p) es
told_first p c true es = refl
told_first p c false es = refl

module _ (m : Meaning) (rs : List Rule) where
  -- what happens when calls are made from phase p
  abbrev pub session_from : Phase → List Call → List Event
  session_from p calls = happened calls (answers m rs p calls)

  -- one call tells the phase that it leads to
  pub told_step : (p : Phase) (c : Call) (es : List Event) → told_since p (record { call = c; taken = is_ok (answer m rs p c) } ∷ es) ≡ told_since (after m rs p c) es
  told_step p c es = told_first p c (is_ok (answer m rs p c)) es ∙ ap (λ q. told_since q es) (sym (agrees m rs p c))

  -- the phase is the one told by the taken calls
  pub phase_told : (calls : List Call) (p : Phase) → phase_after m rs p calls ≡ told_since p (session_from p calls)
  phase_told [] p = refl
  phase_told (c ∷ cs) p = phase_told cs (after m rs p c) ∙ sym (told_step p c (session_from (after m rs p c) cs))

  -- every call is answered
  pub answers_length : (calls : List Call) (p : Phase) → length (answers m rs p calls) ≡ length calls
  answers_length [] p = refl
  answers_length (c ∷ cs) p = ap suc (answers_length cs (after m rs p c))

  pub answers_push : (calls : List Call) (p : Phase) (c : Call) → answers m rs p (calls ++ (c ∷ [])) ≡ answers m rs p calls ++ (answer m rs (phase_after m rs p calls) c ∷ [])
  answers_push [] p c = refl
  answers_push (d ∷ ds) p c = ap (λ xs. answer m rs p d ∷ xs) (answers_push ds (after m rs p d) c)

  pub phase_push : (calls : List Call) (p : Phase) (c : Call) → phase_after m rs p (calls ++ (c ∷ [])) ≡ after m rs (phase_after m rs p calls) c
  phase_push [] p c = refl
  phase_push (d ∷ ds) p c = phase_push ds (after m rs p d) c
