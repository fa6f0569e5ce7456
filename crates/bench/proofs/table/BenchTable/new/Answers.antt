use Rattle.std.proofs.Common.{ℕ, vec_items, rules, subst₂, ap₂}
use Rattle.bench.specs.Table.{table_meaning, TableWords}
use Rattle.bench.proofs.Lists.{table_words}
use Rattle.bench.proofs.table.BenchTable.new.Goals as goal

pub returns : goal.returns
returns c =
    let sizes = c.in-Some.sizes in
    let is = c.in-Some.ensures in
    let starts = vec_items c.args.starts in
    let moves = vec_items c.args.moves in (
      search rules,
      ap₂ (λ b n. table_meaning b n starts moves) is.0 is.1,
      subst₂ (λ (b n : ℕ). TableWords b n starts moves (table_meaning sizes.state_bits sizes.lines starts moves)) is.0 is.1 (table_words sizes.state_bits sizes.lines starts moves),
    )
