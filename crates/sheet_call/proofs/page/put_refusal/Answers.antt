use Rattle.std.proofs.Common.{◌≡◌, ℕ, ◌^◌, ◌<◌, ◌≤◌, List, ◌++◌, length, codes, decimal, ap, ◌∙◌, subst, append_assoc, arith, rules, length-append}
use Rattle.std.proofs.lemmas.Fmt.{length-decimal-le}
use Rattle.refusal.specs.Shown.{layer_word}
use Rattle.refusal.specs.declared.Layer.{Layer}
use Rattle.refusal.specs.declared.Layer.TheVariants.{Bytes, Plan, Plant, Draft, Rules, Log}
use Rattle.filling.specs.Adding.{Added}
use Rattle.filling.proofs.Adding.{added_more}
use Rattle.sheet_call.specs.Page.{line_end}
use Rattle.sheet_call.proofs.page.put_refusal.Goals as goal

-- no number here has more than 20 digits
short : (n : ℕ) → n < 2 ^ 64 → length (decimal n ++ codes " ") ≤ 21
short n small = let l = length-append (decimal n) (codes " ") in let d = length-decimal-le 20 n (omega arith) (omega arith) small in omega arith

short_word : (l : Layer) → length (layer_word l) ≤ 5
short_word Bytes = omega arith
short_word Plan = omega arith
short_word Plant = omega arith
short_word Draft = omega arith
short_word Rules = omega arith
short_word Log = omega arith

pub put_spaced-requires : goal.put_spaced-requires
put_spaced-requires c =
    let l = length-append (decimal c.args.refusal.number) (codes " ") in
    let n = short c.args.refusal.number (omega arith) in
    let size = ap length c.new-page.ensures.as_before in
    omega arith

pub put_spaced-requires-2 : goal.put_spaced-requires-2
put_spaced-requires-2 c =
    let l = length-append (decimal c.args.refusal.place) (codes " ") in
    let n = short c.args.refusal.number (omega arith) in
    let p = short c.args.refusal.place (omega arith) in
    let size = ap length c.new-page.ensures.as_before in
    omega arith

pub put-requires-2 : goal.put-requires-2
put-requires-2 c =
    let n = short c.args.refusal.number (omega arith) in
    let p = short c.args.refusal.place (omega arith) in
    let size = ap length c.new-page.ensures.as_before in
    let w = short_word c.args.refusal.layer in
    let s = ap length (c.as_bytes.ensures.value ∙ c.word.ensures) in
    omega arith

pub put-requires-3 : goal.put-requires-3
put-requires-3 c =
    let n = short c.args.refusal.number (omega arith) in
    let p = short c.args.refusal.place (omega arith) in
    let size = ap length c.new-page.ensures.as_before in
    let w = short_word c.args.refusal.layer in
    let s = ap length (c.as_bytes.ensures.value ∙ c.word.ensures) in
    omega arith

grouped : (a n s p w e : List ℕ) → a ++ ((n ++ s) ++ ((p ++ s) ++ (w ++ e))) ≡ (a ++ (n ++ (s ++ (p ++ (s ++ w))))) ++ e
grouped a n s p w e = simp append_assoc

pub returns : goal.returns
returns c =
    let number = decimal c.args.refusal.number in
    let place = decimal c.args.refusal.place in
    let written : Added c.new-page.result c.put-3.new.page ((codes "refused " ++ (number ++ (codes " " ++ (place ++ (codes " " ++ layer_word c.args.refusal.layer))))) ++ line_end) =
    subst (λ xs. Added c.new-page.result c.put-3.new.page xs)
    (ap (λ x. codes "refused " ++ ((number ++ codes " ") ++ ((place ++ codes " ") ++ (x ++ line_end)))) (c.as_bytes.ensures.value ∙ c.word.ensures) ∙ grouped (codes "refused ") number (codes " ") place (layer_word c.args.refusal.layer) line_end)
    (added_more c.put.ensures (added_more c.put_spaced.ensures (added_more c.put_spaced-2.ensures (added_more c.put-2.ensures c.put-3.ensures)))) in
    search rules
