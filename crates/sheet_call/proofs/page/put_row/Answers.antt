use Rattle.std.proofs.Common.{[], ◌∷◌, ◌++◌, sym, ap, ◌∙◌, subst, arith}
use Rattle.std.proofs.lemmas.List.FromFn.{map-range_with_len_more}
use Rattle.plant.specs.Bits.{bit}
use Rattle.filling.specs.Adding.{Added}
use Rattle.filling.proofs.Adding.{added_more}
use Rattle.sheet_call.specs.Page.{digit, digits_of}
use Rattle.sheet_call.proofs.Lengths.{digits_length}
use Rattle.sheet_call.proofs.page.put_row.Goals as goal

pub put-requires : goal.put-requires
put-requires c = let size = digits_length c.loop-setting.setting (bit c.args.row) in omega arith

pub loop-setting-preserved : goal.loop-setting-preserved
loop-setting-preserved c =
    let a = c.loop-setting.setting in
    let open_at = bit c.args.row in
    subst (λ xs. Added c.args.page.now c.put.new.page xs)
    (ap (λ x. digits_of a open_at ++ (x ∷ [])) c.digit_of.ensures ∙ sym (map-range_with_len_more (λ k. digit (open_at k)) 0 a a (omega arith)))
    (added_more c.loop-setting.invariant c.put.ensures)
