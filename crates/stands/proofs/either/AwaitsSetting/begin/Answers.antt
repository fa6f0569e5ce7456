use Rattle.stands.proofs.Sessions.{sessions, lawful_sessions}
use Rattle.stands.proofs.either.AwaitsSetting.begin.Goals as goal

pub returns-clause-sessions : goal.returns-clause-sessions
returns-clause-sessions g c = sessions (g.P.Plant.meaning c.args.plant.now)

pub returns-clause-lawful : goal.returns-clause-lawful
returns-clause-lawful g c rs = lawful_sessions (g.P.Plant.meaning c.args.plant.now) rs (g.P.Plant.sound c.args.plant.now)
