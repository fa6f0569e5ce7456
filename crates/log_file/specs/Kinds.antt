-- The code of each kind of record of a log file. Assumes nothing.
use Rattle.std.specs.Prelude.{ℕ}
use Rattle.log_file.specs.Encoding.{begin_code, set_code, see_code, close_code, end_code}
use Rattle.log_file.specs.declared.kind.LogFileKind.{LogFileKind}
use Rattle.log_file.specs.declared.kind.LogFileKind.TheVariants.{Begin, Set, See, Close, End}

abbrev pub code_of : LogFileKind → ℕ
code_of Begin = begin_code
code_of Set = set_code
code_of See = see_code
code_of Close = close_code
code_of End = end_code
