-- What reading a rule file comes to, as a function of its bytes. Assumes nothing.
use Rattle.std.specs.Prelude.{ℕ, ◌+◌, Bool, cond, ◌&&◌, List, [], ◌∷◌, ◌++◌, length, drop, Ok, Err, Option, Result, ◌==◌, nat_le, nat_lt, slice_index}
use Rattle.records.specs.Reading.{record_at}
use Rattle.records.specs.Running.{Next, over, onward, by_record, run_records}
use Rattle.records.specs.declared.BytesFault.TheVariants.{Unfinished}
use Rattle.rules.specs.Fitting.{in_range}
use Rattle.rules.specs.declared.Rule.{Rule}
use Rattle.rule_file.specs.Encoding.{rule_kinds, end_code}
use Rattle.rule_file.specs.Order.{last_rule, comes_after}
use Rattle.plant.specs.Sizes.{sizes_fit}
use Rattle.rule_file.specs.declared.fault.RuleFileFault.{RuleFileFault}
use Rattle.rule_file.specs.declared.fault.RuleFileFault.TheVariants.{Bytes, SizeLimits, Misplaced, ListFull}

-- the rule whose record begins at the offset
abbrev pub rule_at : List ℕ → ℕ → Rule
rule_at bytes o = record { state = slice_index bytes (o + 1); line = slice_index bytes (o + 2); prefix = slice_index bytes (o + 3); value = (slice_index bytes (o + 4) == 1) }

-- whether it may stand there: its value is 0 or 1, it is in range, and it comes after the one before it
abbrev pub stands_next : ℕ → ℕ → Option Rule → List ℕ → ℕ → Bool
stands_next b n last bytes o = nat_le (slice_index bytes (o + 4)) 1 && (in_range b n (rule_at bytes o) && comes_after last (rule_at bytes o))

-- what reading comes to: the rules, or why not
abbrev pub Reads : Type 0
Reads = Result (List Rule) RuleFileFault

-- a rule after those read so far: it may stand there (14), and there is a place for it (11)
abbrev pub one_more : ℕ → ℕ → ℕ → List ℕ → List Rule → ℕ → ℕ → Next (List Rule) Reads
one_more b n room bytes rs at end =
    cond (stands_next b n (last_rule rs) bytes at)
    (cond (nat_lt (length rs) room) (onward (rs ++ (rule_at bytes at ∷ [])) end) (over (Err (ListFull at))))
    (over (Err (Misplaced at)))

-- the record at an offset, after the rules read so far
abbrev pub read_record : ℕ → ℕ → ℕ → List ℕ → List Rule → ℕ → Next (List Rule) Reads
read_record b n room bytes rs at = by_record (λ f. Err (Bytes f)) (Ok rs) (λ r. one_more b n room bytes rs at r.end) bytes end_code (record_at bytes rule_kinds at)

-- all records from an offset on; each takes a byte at least, so as many records as bytes are enough
abbrev pub read_records : ℕ → ℕ → ℕ → List ℕ → ℕ → List Rule → ℕ → Reads
read_records b n room bytes = run_records (read_record b n room bytes) (λ rs at. Err (Bytes (Unfinished at)))

-- the sizes (4), then the records, for a list with so many places
abbrev pub read_rules : ℕ → ℕ → ℕ → List ℕ → Reads
read_rules b n room bytes = cond (sizes_fit b n) (read_records b n room bytes (length bytes) [] 0) (Err SizeLimits)

-- the number of rules read
abbrev pub counted : Reads → Result ℕ RuleFileFault
counted (Ok rs) = Ok (length rs)
counted (Err f) = Err f

-- a list after the rules were read into it; a refusal leaves it alone
abbrev pub filled : Reads → List Rule → List Rule
filled (Ok rs) list = rs ++ drop (length rs) list
filled (Err f) list = list
