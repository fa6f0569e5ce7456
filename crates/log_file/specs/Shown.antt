-- How the fault of a log file reads. Assumes nothing.
use Rattle.std.specs.Prelude.{ℕ, List, ◌++◌, codes, decimal}
use Rattle.refusal.specs.Shown.{refusal_line}
use Rattle.records.specs.Faults.{bytes_refusal}
use Rattle.reader.specs.Faults.{log_refusal}
use Rattle.log_file.specs.declared.fault.LogFileFault.{LogFileFault}
use Rattle.log_file.specs.declared.fault.LogFileFault.TheVariants.{Bytes, Refused}

-- the refusal inside, and before that of a call the offset of its record
abbrev pub fault_words : LogFileFault → List ℕ
fault_words (Bytes f) = refusal_line (bytes_refusal f)
fault_words (Refused offset f) = codes "at " ++ (decimal offset ++ (codes " " ++ refusal_line (log_refusal f)))
