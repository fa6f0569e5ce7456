-- Bans leave a plant within its limits. Assumes nothing.
use Rattle.std.specs.Prelude.{List}
use Rattle.std.proofs.lemmas.Bool.{and_parts}
use Rattle.plant.specs.Meaning.{Meaning, Within}
use Rattle.plant.specs.declared.condition.Condition.{Condition}
use Rattle.layers.specs.Banned.{banned_meaning}

pub banned_within : (m : Meaning) (bans : List Condition) → Within m → Within (banned_meaning m bans)
banned_within m bans w = record {
  some_bits = w.some_bits;
  few_bits = w.few_bits;
  some_lines = w.some_lines;
  few_lines = w.few_lines;
  start_state = w.start_state;
  safe_state = λ s a e. w.safe_state s a (and_parts (m.safe s a) _ e).0;
  safe_setting = λ s a e. w.safe_setting s a (and_parts (m.safe s a) _ e).0;
  from_state = w.from_state;
  from_setting = w.from_setting;
  to_state = w.to_state;
}
