use Rattle.std.proofs.Common.{◌≡◌, ◌++◌, ◌*◌, ◌<◌, length, take, drop, ap, ◌∙◌, arith, rules}
use Rattle.std.specs.Slice.Iter.{chunks_exact_rest, chunks_exact_size}
use Rattle.rule_file.proofs.Filling.{rules_below, filled_none, one_left, filled_next, filled_all}
use Rattle.rule_file.proofs.reading.fill.Goals as goal

pub loop-record-init : goal.loop-record-init
loop-record-init c =
    let rest : chunks_exact_rest c.into_iter-record-iterator.result ≡ take (5 * c.args.count) c.args.bytes.now = search rules in
    let size : chunks_exact_size c.into_iter-record-iterator.result ≡ 5 = search rules in
    (filled_none c.args.bytes.now c.args.count c.new-filling.result c.new-filling.ensures.none c.requires.few_bytes _ rest, size)

pub put-requires : goal.put-requires
put-requires c =
    let steps = c.in-Some.ensures.steps in
    let inv = c.loop-record.invariant in
    let left = one_left c.args.bytes.now c.args.count c.new-filling.result c.new-filling.ensures.none c.requires.few_bytes _ _ inv.0 _ _ steps.1.0 (steps.1.1 ∙ inv.1) in
    let same = inv.0.added.size in
    let size = ap length c.new-filling.ensures.as_before in
    omega arith

pub loop-record-preserved : goal.loop-record-preserved
loop-record-preserved c =
    let steps = c.in-Some.ensures.steps in
    let inv = c.loop-record.invariant in (
      filled_next c.args.bytes.now c.args.count c.new-filling.result c.new-filling.ensures.none c.requires.few_bytes _ _ inv.0 _ _ steps.1.0 (steps.1.1 ∙ inv.1) _ _ c.rule_at.ensures c.put.ensures,
      steps.0 ∙ inv.1,
    )

pub returns : goal.returns
returns c =
    let bytes = c.args.bytes.now in
    let count = c.args.count in
    let inv = c.loop-record.invariant in
    let short : length (chunks_exact_rest c.loop-record.record-iterator) < 5 = let few = c.in-None.ensures.steps.1.0 in let size = inv.1 in omega arith in
    let written : c.loop-record.filling.places.now ≡ rules_below bytes count ++ drop count c.args.list.now =
    filled_all bytes count c.new-filling.result c.new-filling.ensures.none c.requires.few_bytes _ _ inv.0 short ∙ ap (λ xs. rules_below bytes count ++ drop count xs) c.new-filling.ensures.as_before in
    search rules
