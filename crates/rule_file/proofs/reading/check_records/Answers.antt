use Rattle.std.proofs.Common.{◌≡◌, ℕ, pred, ◌<◌, ◌≤◌, [], ◌∷◌, ◌++◌, length, Some, Ok, Err, sym, refl, ap, ◌∙◌, arith}
use Rattle.std.proofs.lemmas.List.{length_push}
use Rattle.std.proofs.lemmas.Result.{err_from_is_err_and}
use Rattle.records.proofs.Finding.{ended_err, ended_ok}
use Rattle.records.specs.Typed.{coded}
use Rattle.rule_file.specs.Encoding.{end_code}
use Rattle.rule_file.specs.Kinds.{code_of}
use Rattle.rule_file.specs.Reading.{rule_at, counted, stands_next}
use Rattle.rule_file.specs.declared.fault.RuleFileFault.TheVariants.{Bytes}
use Rattle.rule_file.specs.declared.kind.RuleFileKind.{RuleFileKind}
use Rattle.rule_file.specs.declared.kind.RuleFileKind.TheVariants.{Rule}
use Rattle.rule_file.proofs.Steps.{other_found, at_fault, at_more_bytes, at_end, at_misplaced, at_full, at_rule, last_push}
use Rattle.rule_file.proofs.reading.check_records.Goals as goal

-- a rule is not the end
no_end : (k : RuleFileKind) → k ≡ Rule → code_of k ≡ end_code → ⊥
no_end k is end = let z : ◌≡◌ {A = ℕ} 33 47 = sym (ap code_of is) ∙ end in omega arith

pub loop-found-init : goal.loop-found-init
loop-found-init c = ([], length c.args.bytes.now, omega arith, refl, refl, refl)

pub returns-in_err-found : goal.returns-in_err-found
returns-in_err-found c =
    let inv = c.loop-found.invariant in
    let p = err_from_is_err_and c.from_residual.result c.from_residual.ensures.1 in
    let fault = at_fault c.args.sizes.state_bits c.args.sizes.lines c.args.room c.args.bytes.now inv.1 inv.0 c.loop-found.at inv.2 c.in_err-found.field-0.0 (sym c.in_err-found.ensures) in
    p.1 ∙ ap Err p.2 ∙ ap counted (sym fault ∙ inv.5)

pub returns-in_err-ends_at-in-End : goal.returns-in_err-ends_at-in-End
returns-in_err-ends_at-in-End c =
    let bytes = c.args.bytes.now in
    let inv = c.loop-found.invariant in
    let r = coded code_of c.in_ok-found.found in
    let p = err_from_is_err_and c.from_residual-in_err-ends_at-in-End.result c.from_residual-in_err-ends_at-in-End.ensures.1 in
    let e = ended_err bytes r.end c.in_err-ends_at-in-End.field-0.0 c.in_err-ends_at-in-End.ensures in
    let fault = at_more_bytes c.args.sizes.state_bits c.args.sizes.lines c.args.room bytes inv.1 inv.0 c.loop-found.at inv.2 r (sym c.in_ok-found.ensures) (ap code_of c.in-End.is) e.0 in
    p.1 ∙ ap Err (p.2 ∙ ap Bytes e.1) ∙ ap counted (sym fault ∙ inv.5)

pub returns-in-End : goal.returns-in-End
returns-in-End c =
    let bytes = c.args.bytes.now in
    let inv = c.loop-found.invariant in
    let r = coded code_of c.in_ok-found.found in
    let le = ended_ok bytes r.end c.in_ok-ends_at-in-End.ensures in
    let end = at_end c.args.sizes.state_bits c.args.sizes.lines c.args.room bytes inv.1 inv.0 c.loop-found.at inv.2 r (sym c.in_ok-found.ensures) (ap code_of c.in-End.is) le in
    ap Ok inv.4 ∙ ap counted (sym end ∙ inv.5)

pub returns-then-not-stands_next : goal.returns-then-not-stands_next
returns-then-not-stands_next c =
    let b = c.args.sizes.state_bits in
    let n = c.args.sizes.lines in
    let bytes = c.args.bytes.now in
    let at = c.loop-found.at in
    let inv = c.loop-found.invariant in
    let no_place = ap (λ o. stands_next b n o bytes at) (sym inv.3) ∙ sym c.if-not-stands_next.ensures in
    let fault = at_misplaced b n c.args.room bytes inv.1 inv.0 at inv.2 (coded code_of c.in_ok-found.found) (sym c.in_ok-found.ensures) (no_end c.in_ok-found.found.kind c.in-Rule.is) no_place in
    ap counted (sym fault ∙ inv.5)

pub returns-then-count-room : goal.returns-then-count-room
returns-then-count-room c =
    let b = c.args.sizes.state_bits in
    let n = c.args.sizes.lines in
    let bytes = c.args.bytes.now in
    let at = c.loop-found.at in
    let inv = c.loop-found.invariant in
    let is = inv.4 in
    let stands = ap (λ o. stands_next b n o bytes at) (sym inv.3) ∙ sym c.if-not-stands_next.ensures in
    let full : c.args.room ≤ length inv.0 = omega arith in
    let fault = at_full b n c.args.room bytes inv.1 inv.0 at inv.2 (coded code_of c.in_ok-found.found) (sym c.in_ok-found.ensures) (no_end c.in_ok-found.found.kind c.in-Rule.is) stands full in
    ap counted (sym fault ∙ inv.5)

pub loop-found-preserved : goal.loop-found-preserved
loop-found-preserved c =
    let b = c.args.sizes.state_bits in
    let n = c.args.sizes.lines in
    let bytes = c.args.bytes.now in
    let at = c.loop-found.at in
    let inv = c.loop-found.invariant in
    let rs = inv.0 in
    let f = inv.1 in
    let left = inv.2 in
    let is = inv.4 in
    let r = coded code_of c.in_ok-found.found in
    let found = other_found bytes at r (sym c.in_ok-found.ensures) (no_end c.in_ok-found.found.kind c.in-Rule.is) in
    let end = found.1 in
    let stands = ap (λ o. stands_next b n o bytes at) (sym inv.3) ∙ sym c.if-not-stands_next.ensures in
    let fits : length rs < c.args.room = omega arith in
    let more = at_rule b n c.args.room bytes f rs at left r (sym c.in_ok-found.ensures) (no_end c.in_ok-found.found.kind c.in-Rule.is) stands fits in
    let size = length_push rs (rule_at bytes at) in (
      rs ++ (rule_at bytes at ∷ []),
      pred f,
      omega arith,
      ap Some c.rule_at.ensures ∙ sym (last_push rs (rule_at bytes at)),
      omega arith,
      sym more ∙ inv.5,
    )
