-- What reading and writing a rule file answer and leave, in words. Assumes nothing.
use Rattle.std.specs.Prelude.{◌≡◌, ℕ, ◌<◌, ◌≤◌, List, [], ◌∷◌, ◌++◌, length, drop, Ok, Err, Result}
use Rattle.records.specs.Damage.{Damaged}
use Rattle.rules.specs.declared.Rule.{Rule}
use Rattle.rule_file.specs.Encoding.{rule_code, end_code, rule_kinds, rule_bytes, records_bytes, rules_bytes}
use Rattle.rule_file.specs.Order.{InOrder}
use Rattle.plant.specs.Sizes.{Limits}
use Rattle.rule_file.specs.Reading.{read_rules, counted, filled}
use Rattle.rule_file.specs.declared.fault.RuleFileFault.{RuleFileFault}
use Rattle.rule_file.specs.declared.fault.RuleFileFault.TheVariants.{Bytes, SizeLimits, Misplaced, ListFull, FileRoom}

-- the bytes are the file of k rules that are in order, and these are now the first of the list
pub record Whole (b n : ℕ) (bytes : List ℕ) (list list' : List Rule) (k : ℕ) : Type 0 where
  pub sizes : Limits b n
  pub rules : List Rule
  pub in_order : InOrder b n rules
  pub written : bytes ≡ rules_bytes rules
  pub room : length rules ≤ length list
  pub number : k ≡ length rules
  pub places : list' ≡ rules ++ drop k list

-- the bytes begin with the records of rules that are in order and have places, `There` says what stands after them
-- and at which offset, and the list is as it was
pub record Stopped (b n : ℕ) (bytes : List ℕ) (list list' : List Rule) (There : List Rule → List ℕ → ℕ → Type 0) : Type 0 where
  pub sizes : Limits b n
  pub rules : List Rule
  pub in_order : InOrder b n rules
  pub room : length rules ≤ length list
  pub rest : List ℕ
  pub begins : bytes ≡ records_bytes rules ++ rest
  pub there : There rules rest (length (records_bytes rules))
  pub same : list' ≡ list

-- `rest` begins with a record of a rule's kind, and no rule that is written so may stand after these
abbrev pub NoRule : ℕ → ℕ → List Rule → List ℕ → Type 0
NoRule b n rules rest =
    (s j p v : ℕ) × (more : List ℕ) × (rest ≡ rule_code ∷ (s ∷ (j ∷ (p ∷ (v ∷ more)))))
    × ((r : Rule) → rule_bytes r ≡ rule_code ∷ (s ∷ (j ∷ (p ∷ (v ∷ [])))) → InOrder b n (rules ++ (r ∷ [])) → ⊥)

-- `rest` begins with a rule that may stand after these, which fill the list already
abbrev pub OneTooMany : ℕ → ℕ → ℕ → List Rule → List ℕ → Type 0
OneTooMany b n room rules rest =
    (r : Rule) × (more : List ℕ) × (rest ≡ rule_bytes r ++ more) × InOrder b n (rules ++ (r ∷ [])) × (length rules ≡ room)

-- the answer of the reader, and the list before and after
abbrev pub ReadInWords : ℕ → ℕ → List ℕ → List Rule → List Rule → Result ℕ RuleFileFault → Type 0
ReadInWords b n bytes list list' (Ok k) = Whole b n bytes list list' k
ReadInWords b n bytes list list' (Err SizeLimits) = (Limits b n → ⊥) × (list' ≡ list)
ReadInWords b n bytes list list' (Err (Bytes f)) = Stopped b n bytes list list' (λ rules rest o. Damaged rule_kinds end_code rest o f)
ReadInWords b n bytes list list' (Err (Misplaced offset)) = Stopped b n bytes list list' (λ rules rest o. (offset ≡ o) × NoRule b n rules rest)
ReadInWords b n bytes list list' (Err (ListFull offset)) = Stopped b n bytes list list' (λ rules rest o. (offset ≡ o) × OneTooMany b n (length list) rules rest)
ReadInWords b n bytes list list' (Err (FileRoom needed)) = ⊥

-- every file of rules that are in order and have places is read
abbrev pub Accepts : ℕ → ℕ → List ℕ → List Rule → List Rule → Result ℕ RuleFileFault → Type 0
Accepts b n bytes list list' r = (rules : List Rule) → Limits b n → InOrder b n rules → length rules ≤ length list → bytes ≡ rules_bytes rules → (r ≡ Ok (length rules)) × (list' ≡ rules ++ drop (length rules) list)

-- the answer of the reader and the list after, as computed from the bytes, and in words
pub record Read (b n : ℕ) (bytes : List ℕ) (list list' : List Rule) (r : Result ℕ RuleFileFault) : Type 0 where
  pub computed : r ≡ counted (read_rules b n (length list) bytes)
  pub places : list' ≡ filled (read_rules b n (length list) bytes) list
  pub in_words : ReadInWords b n bytes list list' r
  pub accepts : Accepts b n bytes list list' r

-- the answer of the writer, and the bytes lent to it before and after
pub record Written (list : List Rule) (file file' : List ℕ) (r : Result ℕ RuleFileFault) : Type 0 where
  pub wrote : length (rules_bytes list) ≤ length file → (r ≡ Ok (length (rules_bytes list))) × (file' ≡ rules_bytes list ++ drop (length (rules_bytes list)) file)
  pub refused : length file < length (rules_bytes list) → (r ≡ Err (FileRoom (length (rules_bytes list)))) × (file' ≡ file)
