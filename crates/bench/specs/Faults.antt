-- The number, place and layer of each fault of a bench table. Assumes nothing.
use Rattle.bench.specs.declared.fault.TableFault.{TableFault}
use Rattle.bench.specs.declared.fault.TableFault.TheVariants.{SizeLimits, EntryBeyond}
use Rattle.refusal.specs.declared.Layer.TheVariants.{Plant}
use Rattle.refusal.specs.declared.Refusal.{Refusal}
use Rattle.refusal.specs.Shown.{refusal}

-- 4 where a size is out of its limits, 12 with the index of the first entry beyond the sizes
abbrev pub table_refusal : TableFault → Refusal
table_refusal SizeLimits = refusal 4 0 Plant
table_refusal (EntryBeyond index) = refusal 12 index Plant
