use Rattle.draft.proofs.Largest.{turned_away, went_through}
use Rattle.draft.proofs.draft_in_room.Goals as goal

pub returns-in-Some : goal.returns-in-Some
returns-in-Some g c =
    let plant = c.args.plant.now in
    let filled = c.fill_rows.ensures in
    rw filled (turned_away (g.P.Plant.meaning plant) (g.P.Plant.sound plant) c.args.rules.now c.in-Some.state (rw filled at c.in-Some.ensures))

pub returns : goal.returns
returns g c =
    let plant = c.args.plant.now in
    let filled = c.fill_rows.ensures in
    rw filled (went_through (g.P.Plant.meaning plant) (g.P.Plant.sound plant) c.args.rules.now c.write_rules.new.rules c.write_rules.result (rw filled at c.in_default.ensures) (rw filled at c.write_rules.ensures))
