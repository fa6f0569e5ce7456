use Rattle.std.proofs.Common.{◌≡◌, ◌-◌, ◌≤◌, length}
use Rattle.log_file.specs.Running.{run_from}
use Rattle.log_file.proofs.run.run_log.Given as goal

-- what is left decides, with a record fewer for each call taken; no call was counted without a byte
abbrev pub invariant-loop-made : goal.invariant-loop-made
invariant-loop-made g l =
    (l.taken ≤ l.at)
    × (run_from (g.P.Plant.meaning l.ruled.plant.now) l.ruled.rules.now l.bytes (length l.bytes - l.taken) (record { phase = l.reader.phase; taken = l.taken }) l.at
    ≡ run_from (g.P.Plant.meaning l.ruled.plant.now) l.ruled.rules.now l.bytes (length l.bytes) (record { phase = l.initial.reader.phase; taken = 0 }) 0)

abbrev pub decreases-loop-made : goal.decreases-loop-made
decreases-loop-made g l = length l.bytes - l.at
