-- A draft needs no more places than there can be rules. Assumes nothing.
use Rattle.std.proofs.Common.{◌-◌, ◌^◌, ◌≤◌, mul-le-mul, arith}
use Rattle.plant.specs.Meaning.{Meaning, Within, settings, most_lines}
use Rattle.plant.proofs.Limits.{few_states, few_settings}
use Rattle.rules.specs.Limits.{most_rules}
use Rattle.draft.specs.Rows.{places_needed}

pub few_places : (m : Meaning) → Within m → places_needed m ≤ most_rules
few_places m within =
    let few = few_settings m within in
    mul-le-mul {m₁ = settings m - 1} {m₂ = 2 ^ most_lines - 1} (few_states m within) (omega arith)
