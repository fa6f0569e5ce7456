-- Sessions that are driven by stands, as strings of calls. Assumes nothing.
use Rattle.std.specs.Prelude.{◌≡◌, ℕ, List, [], ◌∷◌, Ok, Err, Result}
use mathlib.Core.List.{Memᴰ}
use Rattle.plant.specs.Lasting.{Open}
use Rattle.plant.specs.Meaning.{Meaning}
use Rattle.reader.specs.Law.{Lawful}
use Rattle.reader.specs.Step.{Answer, answer, after}
use Rattle.reader.specs.Strings.{answers, phase_after, happened}
use Rattle.reader.specs.declared.call.Call.{Call}
use Rattle.reader.specs.declared.call.Call.TheVariants.{Begin, Set, See, Close}
use Rattle.reader.specs.declared.fault.LogFault.{LogFault}
use Rattle.reader.specs.declared.fault.LogFault.TheVariants.{OutOfTurn}
use Rattle.reader.specs.declared.phase.Phase.{Phase}
use Rattle.reader.specs.declared.phase.Phase.TheVariants.{Closed, Poised, Driven}
use Rattle.rules.specs.declared.Rule.{Rule}
use Rattle.stands.specs.Moves.{first_stand, set_stand, seen_stand}
use Rattle.stands.specs.Suggestion.{LowestFit}
use Rattle.stands.specs.declared.either.AwaitsSetting.{AwaitsSetting}
use Rattle.stands.specs.declared.either.AwaitsSighting.{AwaitsSighting}
use Rattle.stands.specs.declared.either.NotTaken.{NotTaken}

-- what a session holds: no stand, or one of the two
pub data Held : Type 0 where
  nothing : Held
  for_setting : AwaitsSetting → Held
  for_sighting : AwaitsSighting → Held

-- the phase that the log reader would be in
abbrev pub phase_of : Held → Phase
phase_of nothing = Closed
phase_of (for_setting x) = Poised x.state
phase_of (for_sighting y) = Driven y.state y.setting

-- a call that gives this result answers as the log reader would answer call c in phase p, and leads to the same phase
abbrev pub AsRead : {X Y : Type 0} → (X → Held) → (Y → Held) → Meaning → List Rule → Phase → Call → Result Y (NotTaken X) → Type 0
AsRead back on m rs p c (Ok y) = (answer m rs p c ≡ Ok tt) × (after m rs p c ≡ phase_of (on y))
AsRead back on m rs p c (Err n) = (answer m rs p c ≡ Err n.fault) × (after m rs p c ≡ phase_of (back n.stand))

-- what a begin answers, and what is held after it
abbrev pub Began : Result AwaitsSetting LogFault → Answer → Held → Type 0
Began (Ok x) g h = (g ≡ Ok tt) × (h ≡ for_setting x)
Began (Err f) g h = (g ≡ Err f) × (h ≡ nothing)

-- what a set or see answers, and what is held after it: the next stand, or the one that was given back
abbrev pub Moved : {X Y : Type 0} → (X → Held) → (Y → Held) → Result Y (NotTaken X) → Answer → Held → Type 0
Moved back on (Ok y) g h = (g ≡ Ok tt) × (h ≡ on y)
Moved back on (Err n) g h = (g ≡ Err n.fault) × (h ≡ back n.stand)

-- one call by what is held: only a begin without a stand, a set or close by the one stand, a see or close by the other
abbrev pub ByStand : Meaning → List Rule → Held → Call → Answer → Held → Type 0
ByStand m rs nothing (Begin t) g h = Began (first_stand m t) g h
ByStand m rs nothing (Set a) g h = ⊥
ByStand m rs nothing (See t) g h = ⊥
ByStand m rs nothing Close g h = ⊥
ByStand m rs (for_setting x) (Begin t) g h = ⊥
ByStand m rs (for_setting x) (Set a) g h = Moved for_setting for_sighting (set_stand m rs x a) g h
ByStand m rs (for_setting x) (See t) g h = ⊥
ByStand m rs (for_setting x) Close g h = (g ≡ Ok tt) × (h ≡ nothing)
ByStand m rs (for_sighting y) (Begin t) g h = ⊥
ByStand m rs (for_sighting y) (Set a) g h = ⊥
ByStand m rs (for_sighting y) (See t) g h = Moved for_sighting for_setting (seen_stand m y t) g h
ByStand m rs (for_sighting y) Close g h = (g ≡ Ok tt) × (h ≡ nothing)

-- calls by stands one after another, with their answers and what is held after them
abbrev pub ByStands : Meaning → List Rule → Held → List Call → List Answer → Held → Type 0
ByStands m rs h [] [] k = k ≡ h
ByStands m rs h [] (g ∷ gs) k = ⊥
ByStands m rs h (c ∷ cs) [] k = ⊥
ByStands m rs h (c ∷ cs) (g ∷ gs) k = (j : Held) × ByStand m rs h c g j × ByStands m rs j cs gs k

-- no answer is "out of turn"
abbrev pub InTurn : List Answer → Type 0
InTurn gs = (p : Phase) → Memᴰ (Err (OutOfTurn p)) gs → ⊥

-- a session by stands is a string of calls as the log reader reads it: the same answers, the same phase; none of it is out of turn,
-- and every string of calls of which none is out of turn can be driven by stands
pub record Sessions (m : Meaning) (rs : List Rule) : Type 0 where
  pub same_answers : (calls : List Call) (given : List Answer) (h : Held) → ByStands m rs nothing calls given h → given ≡ answers m rs Closed calls
  pub same_phase : (calls : List Call) (given : List Answer) (h : Held) → ByStands m rs nothing calls given h → phase_of h ≡ phase_after m rs Closed calls
  pub in_turn : (calls : List Call) (given : List Answer) (h : Held) → ByStands m rs nothing calls given h → InTurn given
  pub every : (calls : List Call) → InTurn (answers m rs Closed calls) → (h : Held) × ByStands m rs nothing calls (answers m rs Closed calls) h

-- with rules such as a draft writes, a session by stands keeps the law; and whenever its stand waits for a setting,
-- there is a lowest setting that fits, and the machine can be kept safe for ever after it
pub record LawfulSessions (m : Meaning) (rs : List Rule) : Type 0 where
  pub law : (calls : List Call) (given : List Answer) (h : Held) → ByStands m rs nothing calls given h → Lawful m (happened calls given) (phase_of h)
  pub suggested : (calls : List Call) (given : List Answer) (x : AwaitsSetting) → ByStands m rs nothing calls given (for_setting x) → (a : ℕ) × LowestFit m rs x.state a × Open m x.state a
