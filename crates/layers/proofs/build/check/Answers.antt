use Rattle.std.proofs.Common.{rules, subst₂}
use Rattle.layers.specs.Bans.{AllWithin, FirstBeyond}
use Rattle.layers.proofs.Bans.{all_within, banned_words, first_beyond}
use Rattle.layers.proofs.Stacked.{over_bans}
use Rattle.layers.proofs.build.check.Goals as goal

pub returns-in-Some : goal.returns-in-Some
returns-in-Some g c =
    let sizes = c.sizes.result in
    let bans = c.args.bans.now in (
      search rules,
      subst₂ (λ b n. FirstBeyond b n bans c.in-Some.index) c.sizes.ensures.0 c.sizes.ensures.1 (first_beyond sizes.state_bits sizes.lines bans c.in-Some.index c.in-Some.ensures),
    )

pub returns : goal.returns
returns g c =
    let m = g.P.Plant.meaning c.args.below.now in
    let sizes = c.sizes.result in
    let bans = c.args.bans.now in
    record {
      few = search rules;
      within = subst₂ (λ b n. AllWithin b n bans) c.sizes.ensures.0 c.sizes.ensures.1 (all_within sizes.state_bits sizes.lines bans c.in_default.ensures);
      words = banned_words m (g.P.Plant.sound c.args.below.now) bans;
      over_bans = over_bans m bans;
    }
