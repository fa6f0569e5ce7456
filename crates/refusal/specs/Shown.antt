-- How a refusal reads. Assumes nothing.
use Rattle.std.specs.Prelude.{ℕ, List, ◌++◌, codes, decimal}
use Rattle.refusal.specs.declared.Layer.{Layer}
use Rattle.refusal.specs.declared.Layer.TheVariants.{Bytes, Plan, Plant, Draft, Rules, Log}
use Rattle.refusal.specs.declared.Refusal.{Refusal}

-- the word for each layer
abbrev pub layer_word : Layer → List ℕ
layer_word Bytes = codes "bytes"
layer_word Plan = codes "plan"
layer_word Plant = codes "plant"
layer_word Draft = codes "draft"
layer_word Rules = codes "rules"
layer_word Log = codes "log"

-- the refusal with this number and place in this layer
abbrev pub refusal : ℕ → ℕ → Layer → Refusal
refusal n p l = record { number = n; place = p; layer = l }

-- "refused", number, place and layer, parted by single spaces
abbrev pub refusal_line : Refusal → List ℕ
refusal_line r = codes "refused " ++ (decimal r.number ++ (codes " " ++ (decimal r.place ++ (codes " " ++ layer_word r.layer))))
