use Rattle.std.proofs.Common.{◌∙◌, subst}
use Rattle.filling.specs.Adding.{Added}
use Rattle.filling.proofs.Adding.{added_more}
use Rattle.sheet_call.proofs.page.put_spaced.Goals as goal

pub returns : goal.returns
returns c =
    added_more (subst (λ xs. Added c.args.page.now c.put.new.page xs) (c.as_bytes.ensures.value ∙ c.format.ensures.text) c.put.ensures) c.put-2.ensures
