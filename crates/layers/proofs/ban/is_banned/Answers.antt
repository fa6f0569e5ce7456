use Rattle.std.proofs.Common.{ap₂, ◌∙◌, ap, mod-eq_of_lt}
use Rattle.plant.specs.Conditions.{holds, pair_word}
use Rattle.plant.specs.declared.condition.Condition.{Condition}
use Rattle.std.specs.List.{list_any}
use Rattle.layers.proofs.ban.is_banned.Goals as goal

pub returns : goal.returns
returns c =
    let b = c.args.sizes.state_bits in
    let word = c.pair_word.ensures ∙ ap₂ (pair_word b) (mod-eq_of_lt c.requires.state) (mod-eq_of_lt c.requires.setting) in
    c.some_holds.ensures ∙ ap (λ w. list_any (λ (ban : Condition). holds ban w) c.args.bans.now) word
