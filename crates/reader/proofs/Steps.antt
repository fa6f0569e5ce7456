-- One step: it moves as the taken calls tell, whatever the rules. Assumes nothing.
use Rattle.std.proofs.Common.{◌≡◌, ℕ, ◌<◌, Bool, true, false, cond, ◌&&◌, ltb, List, is_ok, Ok, Err, Decides, sym, refl, ap, ◌∙◌}
use Rattle.std.proofs.lemmas.Bool.{and_from, and_parts, lt-ltb, ltb-true}
use Rattle.plant.specs.Meaning.{Meaning, states, settings}
use Rattle.rules.specs.declared.Rule.{Rule}
use Rattle.reader.specs.Law.{tells}
use Rattle.reader.specs.Step.{answer, after, offered, fits_there}
use Rattle.reader.specs.declared.call.Call.{Call}
use Rattle.reader.specs.declared.call.Call.TheVariants.{Begin, Set, See, Close}
use Rattle.reader.specs.declared.fault.LogFault.{LogFault}
use Rattle.reader.specs.declared.fault.LogFault.TheVariants.{BeyondSizes, NoStart, Misfit, NotFollowing}
use Rattle.reader.specs.declared.phase.Phase.{Phase}
use Rattle.reader.specs.declared.phase.Phase.TheVariants.{Closed, Poised, Driven}

-- an offered number is taken exactly when it is below the size and passes the test: as a test, and in words
offered_taken : (size k : ℕ) (test : Bool) (fault : LogFault) → is_ok (offered {X = Unit {0}} size k test fault tt) ≡ (ltb k size && test)
offered_taken size k test fault = by (ltb k size) test
  where
    by : (small t : Bool) → is_ok {T = Unit {0}} (cond small (cond t (Ok tt) (Err fault)) (Err (BeyondSizes k))) ≡ (small && t)
    by true true = refl
    by true false = refl
    by false t = refl

pub offered_decides : (size k : ℕ) (test : Bool) (fault : LogFault) → Decides (is_ok (offered {X = Unit {0}} size k test fault tt)) ((k < size) × (test ≡ true))
offered_decides size k test fault =
    let is = offered_taken size k test fault in (
      λ e. let parts = and_parts (ltb k size) test (sym is ∙ e) in (ltb-true k size parts.0, parts.1),
      λ h. is ∙ and_from (ltb k size) test (lt-ltb k size h.0) h.1,
    )

-- a taken call moves as it tells, and a call that is turned away moves nothing
pub agrees : (m : Meaning) (rs : List Rule) (p : Phase) (c : Call) → after m rs p c ≡ cond (is_ok (answer m rs p c)) (tells p c) p
agrees m rs Closed (Begin t) = ap (λ b. cond b (Poised t) Closed) (sym (offered_taken (states m) t (m.start t) (NoStart t)))
agrees m rs Closed (Set a) = refl
agrees m rs Closed (See t) = refl
agrees m rs Closed Close = refl
agrees m rs (Poised s) (Begin t) = refl
agrees m rs (Poised s) (Set a) = ap (λ b. cond b (Driven s a) (Poised s)) (sym (offered_taken (settings m) a (fits_there m rs s a) (Misfit a)))
agrees m rs (Poised s) (See t) = refl
agrees m rs (Poised s) Close = refl
agrees m rs (Driven s a) (Begin t) = refl
agrees m rs (Driven s a) (Set b) = refl
agrees m rs (Driven s a) (See t) = ap (λ b. cond b (Poised t) (Driven s a)) (sym (offered_taken (states m) t (m.follows s a t) (NotFollowing t)))
agrees m rs (Driven s a) Close = refl
