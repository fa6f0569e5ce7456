-- A plan whose sizes are within the limits means a plant within the limits. Assumes nothing.
use Rattle.std.specs.Prelude.{◌≡◌, ◌^◌, ◌<◌, true}
use Rattle.std.proofs.lemmas.Bool.{and_parts, and_from, leb-true, le-leb, ltb-true}
use Rattle.plant.specs.Meaning.{Within}
use Rattle.plan.specs.Machine.{Parts, is_pair, plan_meaning}
use Rattle.plan.specs.Held.{parts_of}
use Rattle.plan.specs.Sizes.{sizes_fit, most_auxiliaries}
use Rattle.plan.specs.declared.plan.Plan.{Plan}

pair_within : (p : Parts) {s a : Prim.Native.Nat.ℕ} → is_pair p s a ≡ true → (s < 2 ^ p.bits) × (a < 2 ^ p.lines)
pair_within p e = let w = and_parts _ _ e in (ltb-true _ _ w.0, ltb-true _ _ w.1)

pub plan_within : (p : Parts) → sizes_fit p.bits p.lines p.auxiliaries ≡ true → Within (plan_meaning p)
plan_within p fits =
    let parts = and_parts _ _ (and_parts _ _ fits).0 in
    let bits = and_parts _ _ parts.0 in
    let lines = and_parts _ _ parts.1 in
    record {
      some_bits = leb-true _ _ bits.0;
      few_bits = leb-true _ _ bits.1;
      some_lines = leb-true _ _ lines.0;
      few_lines = leb-true _ _ lines.1;
      start_state = λ t e. ltb-true _ _ (and_parts _ _ e).0;
      safe_state = λ s a e. (pair_within p {s = s} {a = a} (and_parts (is_pair p s a) _ e).0).0;
      safe_setting = λ s a e. (pair_within p {s = s} {a = a} (and_parts (is_pair p s a) _ e).0).1;
      from_state = λ s a t e. (pair_within p {s = s} {a = a} (and_parts (is_pair p s a) _ (and_parts _ _ e).0).0).0;
      from_setting = λ s a t e. (pair_within p {s = s} {a = a} (and_parts (is_pair p s a) _ (and_parts _ _ e).0).0).1;
      to_state = λ s a t e. ltb-true _ _ (and_parts (is_pair p s a) _ (and_parts _ _ e).0).1;
    }

-- the sizes of a plan are within the limits
pub plan_sound : (x : Plan) → Within (plan_meaning (parts_of x))
plan_sound x = plan_within (parts_of x) (and_from _ _ x.sizes.pair.fit (le-leb x.sizes.auxiliaries most_auxiliaries x.sizes.few))
