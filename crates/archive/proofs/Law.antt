-- A run with faithful rules is right. Assumes nothing.
use Rattle.std.proofs.Common.{◌≡◌, ℕ, List, [], ◌∷◌, ◌++◌, length, replicate, is_ok, Ok, Err, Result, sym, refl, ap, ◌∙◌, subst}
use Rattle.std.proofs.lemmas.Bool.{both_ways}
use Rattle.plant.specs.Meaning.{Meaning, Within}
use Rattle.rules.specs.declared.Rule.{Rule}
use Rattle.reader.specs.Law.{taken_calls, told_from, told, Permitted}
use Rattle.reader.specs.Step.{answer, after}
use Rattle.reader.specs.Strings.{Faithful, answers, phase_after, happened, session}
use Rattle.reader.specs.declared.call.Call.{Call}
use Rattle.reader.specs.declared.fault.LogFault.{LogFault}
use Rattle.reader.specs.declared.phase.Phase.{Phase}
use Rattle.reader.specs.declared.phase.Phase.TheVariants.{Closed}
use Rattle.reader.proofs.Keeping.{keeps_law}
use Rattle.log_file.specs.Outcome.{Taken, RanInWords}
use Rattle.log_file.specs.declared.fault.LogFileFault.{LogFileFault}
use Rattle.log_file.specs.declared.fault.LogFileFault.TheVariants.{Bytes, Refused}
use Rattle.archive.specs.Right.{AllPermitted, GoesNoFurther, Right}

-- every call was taken
abbrev AllTaken : Meaning → List Rule → Phase → List Call → Type 0
AllTaken m rs p calls = answers m rs p calls ≡ replicate (length calls) (Ok tt)

-- then the calls taken are all of them
taken_all : (calls : List Call) → taken_calls (happened calls (replicate (length calls) (Ok tt))) ≡ calls
taken_all [] = refl
taken_all (c ∷ cs) = ap (λ ds. c ∷ ds) (taken_all cs)

-- a call among them was taken, and so were those before it
taken_there : (m : Meaning) (rs : List Rule) (p : Phase) (front back : List Call) (c : Call) → AllTaken m rs p (front ++ (c ∷ back)) → AllTaken m rs p front × (answer m rs (phase_after m rs p front) c ≡ Ok tt)
taken_there m rs p [] back c all = (refl, (let first : answer m rs p c ≡ Ok tt = cc in first))
taken_there m rs p (d ∷ ds) back c all =
    let first : answer m rs p d ≡ Ok tt = cc in
    let rest : AllTaken m rs (after m rs p d) (ds ++ (c ∷ back)) = cc in
    let w = taken_there m rs (after m rs p d) ds back c rest in
    ((let both : AllTaken m rs p (d ∷ ds) = ap (λ x. x ∷ answers m rs (after m rs p d) ds) first ∙ ap (λ xs. Ok tt ∷ xs) w.0 in both), w.1)

module _ (m : Meaning) (within : Within m) (rs : List Rule) (faithful : Faithful m rs) where
  -- the phase told by calls that were all taken
  told_all : (calls : List Call) → AllTaken m rs Closed calls → told (session m rs calls) ≡ told_from Closed calls
  told_all calls all = ap (λ xs. told_from Closed (taken_calls (happened calls xs))) all ∙ ap (told_from Closed) (taken_all calls)

  all_permitted : (calls : List Call) → AllTaken m rs Closed calls → AllPermitted m calls
  all_permitted calls all front back c is =
      let w = taken_there m rs Closed front back c (subst (λ cs. AllTaken m rs Closed cs) is all) in
      subst (λ p. Permitted m p c) (told_all front w.0) (((keeps_law m within rs faithful).next front c).0 (ap is_ok w.1))

  phase_is : (calls : List Call) → AllTaken m rs Closed calls → phase_after m rs Closed calls ≡ told_from Closed calls
  phase_is calls all = ((keeps_law m within rs faithful).lawful calls).phase_told ∙ told_all calls all

  -- a call that is turned away is not permitted
  not_permitted : (calls : List Call) (phase : Phase) (c : Call) (f : LogFault) → AllTaken m rs Closed calls → phase ≡ phase_after m rs Closed calls → answer m rs phase c ≡ Err f → Permitted m phase c → ⊥
  not_permitted calls phase c f all is refused may =
      both_ways (is_ok (answer m rs (phase_after m rs Closed calls) c))
      (ap (λ p. is_ok (answer m rs p c)) (sym is) ∙ ap is_ok refused)
      (((keeps_law m within rs faithful).next calls c).1 (subst (λ p. Permitted m p c) (is ∙ ((keeps_law m within rs faithful).lawful calls).phase_told) may))

  right : (There : List Call → List ℕ → Type 0) (phase : Phase) (log : List ℕ) (outcome : Result ℕ LogFileFault) (t : Taken m rs Closed phase log There) → GoesNoFurther m phase t.calls t.rest outcome → Right m log outcome phase
  right There phase log outcome t stops =
      record {
        calls = t.calls;
        rest = t.rest;
        begins = t.begins;
        permitted = all_permitted t.calls t.all_taken;
        phase_told = t.phase ∙ phase_is t.calls t.all_taken;
        no_further = stops;
        some_setting = λ s is.
            let w = ((keeps_law m within rs faithful).lawful t.calls).some_setting s (sym t.phase ∙ is) in
            (w.0, subst (λ p. Permitted m p (Rattle.reader.specs.declared.call.Call.TheVariants.Set w.0)) (sym t.phase) w.1);
      }

  pub run_right : (phase : Phase) (log : List ℕ) (outcome : Result ℕ LogFileFault) → RanInWords m rs Closed phase log outcome → Right m log outcome phase
  run_right phase log (Ok n) t = right _ phase log (Ok n) t t.there
  run_right phase log (Err (Refused offset f)) t =
      let h = t.there in
      let w = h.1 in
      right _ phase log (Err (Refused offset f)) t (h.0, (w.0, w.1, w.2, not_permitted t.calls phase w.0 f t.all_taken t.phase w.3))
  run_right phase log (Err (Bytes f)) t = right _ phase log (Err (Bytes f)) t t.there
