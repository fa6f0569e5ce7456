use Rattle.std.proofs.Common.{◌≡◌, ℕ, suc, ◌+◌, ◌-◌, ◌*◌, ◌^◌, ◌<◌, ◌≤◌, length, get_or, ap, mul-le-mul_right, suc-mul, arith}
use Rattle.plant.specs.Meaning.{states, settings}
use Rattle.rules.specs.Listing.{rules_of_state}
use Rattle.rules.proofs.Listing.{states_length}
use Rattle.draft.specs.Rows.{places_needed}
use Rattle.draft.proofs.Writing.{added_next}
use Rattle.draft.proofs.listing.write_rules.Goals as goal

-- the places of state s lie within those that are needed
room : (n rest s end all : ℕ) → rest ≡ 2 ^ n - 1 → end ≤ s * rest → s < all → end + rest ≤ all * rest
room n rest s end all is few lt =
    let more : suc s * rest ≤ all * rest = mul-le-mul_right rest lt in
    let step = suc-mul s rest in
    omega arith

pub write-requires : goal.write-requires
write-requires g c =
    let m = g.P.Plant.meaning c.args.plant.now in
    let n = c.sizes-sizes.result.lines in
    let s = c.loop-state.state in
    let size = ap length c.new-filling.ensures.as_before in
    let same_rest : 2 ^ n - 1 ≡ settings m - 1 = ap (λ k. 2 ^ k - 1) c.sizes-sizes.ensures.1 in
    let short = states_length n c.args.rows.now s in
    let fits = room n (2 ^ n - 1) s c.loop-state.filling.filled (states m) (omega arith) (omega arith) (omega arith) in
    let all : states m * (2 ^ n - 1) ≡ places_needed m = ap (λ k. states m * k) same_rest in
    omega arith

pub loop-state-preserved : goal.loop-state-preserved
loop-state-preserved g c =
    added_next (λ s. rules_of_state c.sizes-sizes.result.lines (get_or c.args.rows.now s 0) s) c.loop-state.state c.loop-state.invariant c.write.ensures
