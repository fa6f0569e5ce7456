-- How a verdict reads. Assumes nothing.
use Rattle.std.specs.Prelude.{ℕ, List, ◌++◌, Ok, Err, codes, decimal, Result}
use Rattle.reader.specs.Shown.{phase_words}
use Rattle.log_file.specs.Shown.{fault_words}
use Rattle.log_file.specs.declared.fault.LogFileFault.{LogFileFault}
use Rattle.archive.specs.declared.judging.Verdict.{Verdict}

-- the number of calls taken, or why the run stopped
abbrev pub outcome_words : Result ℕ LogFileFault → List ℕ
outcome_words (Ok taken) = codes "taken " ++ decimal taken
outcome_words (Err f) = fault_words f

-- that, and the phase after it
abbrev pub verdict_words : Verdict → List ℕ
verdict_words v = outcome_words v.outcome ++ (codes ", " ++ phase_words v.phase)
