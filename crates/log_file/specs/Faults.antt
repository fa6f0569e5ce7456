-- The number, place and layer of each fault of a log file. Assumes nothing.
use Rattle.refusal.specs.declared.Refusal.{Refusal}
use Rattle.records.specs.Faults.{bytes_refusal}
use Rattle.reader.specs.Faults.{log_refusal}
use Rattle.log_file.specs.declared.fault.LogFileFault.{LogFileFault}
use Rattle.log_file.specs.declared.fault.LogFileFault.TheVariants.{Bytes, Refused}

-- a fault of the bytes, or of the call, keeps its number, place and layer
abbrev pub log_file_refusal : LogFileFault → Refusal
log_file_refusal (Bytes f) = bytes_refusal f
log_file_refusal (Refused offset f) = log_refusal f
