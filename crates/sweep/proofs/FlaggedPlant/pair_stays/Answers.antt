use Rattle.std.proofs.Common.{◌≡◌, rules}
use Rattle.std.proofs.lemmas.Bool.Decides.{Decides-at}
use Rattle.plant.proofs.Staying.{stays_decides}
use Rattle.sweep.specs.Greatest.{held_in}
use Rattle.plant.specs.Staying.{stays}
use Rattle.sweep.proofs.FlaggedPlant.pair_stays.Goals as goal

pub returns-then-is_safe-clause-in_words : goal.returns-then-is_safe-clause-in_words
returns-then-is_safe-clause-in_words g c =
    let m = g.P.Plant.meaning c.args.self.now.plant.now in
    let value : c.leads_back.result ≡ stays m (held_in c.args.self.now.held.now) c.args.state c.args.setting = search rules in
    Decides-at _ _ value (stays_decides m (g.P.Plant.sound c.args.self.now.plant.now) (held_in c.args.self.now.held.now) c.args.state c.args.setting)
