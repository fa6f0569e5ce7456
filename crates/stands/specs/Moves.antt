-- What each call by a stand gives. Assumes nothing.
use Rattle.std.specs.Prelude.{ℕ, List, Ok, Err, Result}
use Rattle.plant.specs.Meaning.{Meaning, states, settings}
use Rattle.reader.specs.Step.{fits_there, offered}
use Rattle.reader.specs.declared.fault.LogFault.{LogFault}
use Rattle.reader.specs.declared.fault.LogFault.TheVariants.{NoStart, Misfit, NotFollowing}
use Rattle.rules.specs.declared.Rule.{Rule}
use Rattle.stands.specs.declared.either.AwaitsSetting.{AwaitsSetting}
use Rattle.stands.specs.declared.either.AwaitsSighting.{AwaitsSighting}
use Rattle.stands.specs.declared.either.NotTaken.{NotTaken}

-- the next stand, or the same stand back with the fault
abbrev pub or_back : {X Y : Type 0} → X → Result Y LogFault → Result Y (NotTaken X)
or_back x (Ok y) = Ok y
or_back x (Err f) = Err (record { stand = x; fault = f })

-- a begin of t: beyond the sizes (12), no start (16), or the first stand
abbrev pub first_stand : Meaning → ℕ → Result AwaitsSetting LogFault
first_stand m t = offered (states m) t (m.start t) (NoStart t) (record { state = t })

-- a set of a: beyond the sizes (12), a misfit (17), or the stand that waits for a sighting
abbrev pub set_stand : Meaning → List Rule → AwaitsSetting → ℕ → Result AwaitsSighting (NotTaken AwaitsSetting)
set_stand m rs x a = or_back x (offered (settings m) a (fits_there m rs x.state a) (Misfit a) (record { state = x.state; setting = a }))

-- a see of t: beyond the sizes (12), not following (18), or the stand that waits for a setting
abbrev pub seen_stand : Meaning → AwaitsSighting → ℕ → Result AwaitsSetting (NotTaken AwaitsSighting)
seen_stand m y t = or_back y (offered (states m) t (m.follows y.state y.setting t) (NotFollowing t) (record { state = t }))
