use Rattle.std.proofs.Common.{◌≡◌, ◌*◌, ◌<◌, ◌%◌, ◌^◌, ap, ap₂, ◌∙◌, arith}
use lib.Bits.{bit_or}
use Rattle.std.proofs.lemmas.Nat.{mod_below, or_comm, or_shifted, pow_pos, shl_whole}
use Rattle.plant.proofs.Limits.{limits_from}
use Rattle.plant.proofs.sizes.Sizes.pair_word.Goals as goal

pub returns : goal.returns
returns c =
    let sizes = c.args.self.now in
    let b = sizes.state_bits in
    let n = sizes.lines in
    let limits = limits_from b n sizes.fit in
    let few = limits.few_bits in
    let low = limits.few_lines in
    let s = c.args.state % 2 ^ b in
    let a = c.args.setting % 2 ^ n in
    let s_small : s < 2 ^ b = mod_below c.args.state (2 ^ b) (pow_pos b) in
    let a_small : a < 2 ^ n = mod_below c.args.setting (2 ^ n) (pow_pos n) in
    let whole : (a * 2 ^ b) % 2 ^ 32 ≡ a * 2 ^ b = shl_whole a n b 32 a_small (omega arith) in
    ap₂ (λ x y. bit_or (c.args.state % x) ((c.args.setting % y * 2 ^ b) % 2 ^ 32)) c.states.ensures c.settings.ensures ∙
    ap (bit_or s) whole ∙ or_comm s (a * 2 ^ b) ∙ or_shifted a b s s_small
