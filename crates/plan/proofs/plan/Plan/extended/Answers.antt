use Rattle.std.proofs.Common.{◌≡◌, ◌+◌, ◌*◌, ◌%◌, ◌^◌, ◌<◌, sym, ap, ◌∙◌, subst, ap₂, mul_comm, arith, pow-add, mod-eq_of_lt}
use lib.Bits.{bit_or}
use lib.Arith.{digits_lt}
use Rattle.std.proofs.lemmas.Nat.{or_comm, or_shifted, shl_whole}
use Rattle.plant.specs.Conditions.{pair_word}
use Rattle.plant.proofs.Limits.{limits_from}
use Rattle.plan.proofs.plan.Plan.extended.Goals as goal

pub returns : goal.returns
returns c =
    let sizes = c.args.self.now.sizes in
    let b = sizes.pair.state_bits in
    let n = sizes.pair.lines in
    let s = c.args.state in
    let a = c.args.setting in
    let x = c.args.x in
    let limits = limits_from b n sizes.pair.fit in
    let few = sizes.few in
    let s_small : s < 2 ^ b = c.requires.state_is in
    let a_small : a < 2 ^ n = c.requires.setting_is in
    let upper : (x * 2 ^ (b + n)) % 2 ^ 32 ≡ x * 2 ^ (b + n) = shl_whole x sizes.auxiliaries (b + n) 32 c.requires.assignment_is (omega arith) in
    let pair = c.pair_word-pair.ensures ∙ ap₂ (pair_word b) (mod-eq_of_lt s_small) (mod-eq_of_lt a_small) in
    let whole : 2 ^ n * 2 ^ b ≡ 2 ^ (b + n) = mul_comm (2 ^ n) (2 ^ b) ∙ sym (pow-add 2 b n) in
    let pair_small : a * 2 ^ b + s < 2 ^ (b + n) = subst (λ k. a * 2 ^ b + s < k) whole (digits_lt a_small s_small) in
    ap₂ (λ p l. bit_or p ((x * 2 ^ l) % 2 ^ 32)) pair c.first_auxiliary.ensures ∙ ap (bit_or (pair_word b s a)) upper ∙
    or_comm (a * 2 ^ b + s) (x * 2 ^ (b + n)) ∙ or_shifted x (b + n) (a * 2 ^ b + s) pair_small
