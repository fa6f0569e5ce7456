-- How many states and settings there can be. Assumes nothing.
use Rattle.std.proofs.Common.{◌≡◌, ℕ, ◌^◌, ◌≤◌, true, pow_mono}
use Rattle.std.proofs.lemmas.Bool.{and_parts, and_from, leb-true, le-leb}
use Rattle.plant.specs.Meaning.{Meaning, Within, states, settings, most_bits, most_lines}
use Rattle.plant.specs.Sizes.{sizes_fit, Limits}

pub few_states : (m : Meaning) → Within m → states m ≤ 2 ^ most_bits
few_states m within = pow_mono within.few_bits

pub few_settings : (m : Meaning) → Within m → settings m ≤ 2 ^ most_lines
few_settings m within = pow_mono within.few_lines

-- the test of the sizes, in words
pub limits_from : (b n : ℕ) → sizes_fit b n ≡ true → Limits b n
limits_from b n fits =
    let parts = and_parts _ _ fits in
    let bits = and_parts _ _ parts.0 in
    let lines = and_parts _ _ parts.1 in
    record {
      some_bits = leb-true 1 b bits.0;
      few_bits = leb-true b most_bits bits.1;
      some_lines = leb-true 1 n lines.0;
      few_lines = leb-true n most_lines lines.1;
    }

pub limits_fit : (b n : ℕ) → Limits b n → sizes_fit b n ≡ true
limits_fit b n h =
    and_from _ _ (and_from _ _ (le-leb 1 b h.some_bits) (le-leb b most_bits h.few_bits)) (and_from _ _ (le-leb 1 n h.some_lines) (le-leb n most_lines h.few_lines))
