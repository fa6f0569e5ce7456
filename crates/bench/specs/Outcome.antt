-- What making a bench table answers, for all input. Assumes nothing.
use Rattle.std.specs.Prelude.{◌≡◌, ℕ, ◌+◌, ◌^◌, true, false, ◌⊎◌, List, length, Ok, Err, vec_items, Result}
use Rattle.plant.specs.Meaning.{Meaning}
use Rattle.plant.specs.Entries.{start_fits}
use Rattle.bench.specs.Entries.{move_fits}
use Rattle.plant.specs.Sizes.{sizes_fit}
use Rattle.plant.specs.Tests.{FirstMisfit}
use Rattle.std.specs.List.{list_all}
use Rattle.bench.specs.Table.{table_fits, table_meaning, TableWords}
use Rattle.bench.specs.declared.entry.Move.{Move}
use Rattle.bench.specs.declared.fault.TableFault.{TableFault}
use Rattle.bench.specs.declared.fault.TableFault.TheVariants.{SizeLimits, EntryBeyond}
use Rattle.bench.specs.declared.table.BenchTable.{BenchTable}

-- what a table means
abbrev pub bench_meaning : BenchTable → Meaning
bench_meaning x = table_meaning x.sizes.state_bits x.sizes.lines (vec_items x.starts) (vec_items x.moves)

-- entry i, counted through the starts and then the moves, is the first beyond the sizes
abbrev pub FirstBeyond : ℕ → ℕ → List ℕ → List Move → ℕ → Type 0
FirstBeyond b n starts moves i =
    FirstMisfit (start_fits (2 ^ b) (2 ^ n)) starts i
    ⊎ ((list_all (start_fits (2 ^ b) (2 ^ n)) starts ≡ true) × ((j : ℕ) × (i ≡ length starts + j) × FirstMisfit (move_fits (2 ^ b) (2 ^ n)) moves j))

-- a size out of its limits (4), else the first entry beyond the sizes (12), else a table that means the two lists
abbrev pub Built : ℕ → ℕ → List ℕ → List Move → Result BenchTable TableFault → Type 0
Built b n starts moves (Ok x) = (table_fits b n starts moves ≡ true) × (bench_meaning x ≡ table_meaning b n starts moves) × TableWords b n starts moves (bench_meaning x)
Built b n starts moves (Err SizeLimits) = sizes_fit b n ≡ false
Built b n starts moves (Err (EntryBeyond i)) = (sizes_fit b n ≡ true) × FirstBeyond b n starts moves i
