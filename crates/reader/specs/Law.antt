-- The law over strings of calls, in words of the machine: phases, starts, followings, safe settings and lasting sets.
-- Rows, rules and steps of the reader stand nowhere in it. Assumes nothing.
use Rattle.std.specs.Prelude.{◌≡◌, ℕ, Bool, true, cond, List, [], ◌∷◌, ◌++◌, Decides}
use Rattle.plant.specs.Lasting.{Open}
use Rattle.plant.specs.Meaning.{Meaning}
use Rattle.reader.specs.declared.call.Call.{Call}
use Rattle.reader.specs.declared.call.Call.TheVariants.{Begin, Set, See, Close}
use Rattle.reader.specs.declared.phase.Phase.{Phase}
use Rattle.reader.specs.declared.phase.Phase.TheVariants.{Closed, Poised, Driven}

-- a call that was made, and whether it was taken
pub record Event : Type 0 where
  pub call : Call
  pub taken : Bool

-- the calls that were taken, in order
abbrev pub taken_calls : List Event → List Call
taken_calls [] = []
taken_calls (e ∷ es) = cond e.taken (e.call ∷ taken_calls es) (taken_calls es)

-- what one more taken call tells of the phase: a begin or see of t, poised at t; a set of a when poised at s, driven by (s, a); a close, closed
abbrev pub tells : Phase → Call → Phase
tells p (Begin t) = Poised t
tells Closed (Set a) = Closed
tells (Poised s) (Set a) = Driven s a
tells (Driven s b) (Set a) = Driven s b
tells p (See t) = Poised t
tells p Close = Closed

-- the phase told by taken calls, one after another
abbrev pub told_from : Phase → List Call → Phase
told_from p [] = p
told_from p (c ∷ cs) = told_from (tells p c) cs

-- the phase told by what happened since a new reader, which is closed
abbrev pub told : List Event → Phase
told es = told_from Closed (taken_calls es)

-- when a call is permitted, by the phase before it
abbrev pub Permitted : Meaning → Phase → Call → Type 0
Permitted m p (Begin t) = (p ≡ Closed) × (m.start t ≡ true)
Permitted m p (Set a) = (s : ℕ) × (p ≡ Poised s) × Open m s a
Permitted m p (See t) = (s : ℕ) × (a : ℕ) × (p ≡ Driven s a) × (m.follows s a t ≡ true)
Permitted m p Close = p ≡ Closed → ⊥

-- what happened since a new reader, and the phase after it, keep the law
pub record Lawful (m : Meaning) (events : List Event) (phase : Phase) : Type 0 where
  -- the phase is the one told by the taken calls alone
  pub phase_told : phase ≡ told events
  -- every setting that was taken was safe where it was taken
  pub safe : (front back : List Event) (a : ℕ) → events ≡ front ++ (record { call = Set a; taken = true } ∷ back) → (s : ℕ) × (told front ≡ Poised s) × (m.safe s a ≡ true)
  -- each call was taken exactly when it was permitted
  pub exactly : (front back : List Event) (e : Event) → events ≡ front ++ (e ∷ back) → Decides e.taken (Permitted m (told front) e.call)
  -- when poised, some setting is permitted
  pub some_setting : (s : ℕ) → phase ≡ Poised s → (a : ℕ) × Permitted m phase (Set a)
