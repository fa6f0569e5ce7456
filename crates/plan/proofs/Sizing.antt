-- The test of a plan's sizes, in words. Assumes nothing.
use Rattle.std.proofs.Common.{◌≡◌, ℕ, true}
use Rattle.std.proofs.lemmas.Bool.{and_parts, and_from, leb-true, le-leb}
use Rattle.plant.proofs.Limits as Plant
use Rattle.plan.specs.Sizes.{sizes_fit, most_auxiliaries}
use Rattle.plan.specs.Written.{Limits}

pub limits_from : (b n m : ℕ) → sizes_fit b n m ≡ true → Limits b n m
limits_from b n m fits =
    let parts = and_parts _ _ fits in
    (Plant.limits_from b n parts.0, leb-true m most_auxiliaries parts.1)

pub sizes_from : (b n m : ℕ) → Limits b n m → sizes_fit b n m ≡ true
sizes_from b n m h = and_from _ _ (Plant.limits_fit b n h.0) (le-leb m most_auxiliaries h.1)
