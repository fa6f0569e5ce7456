-- What the archive answers: a verdict on a log, and the rule file of a plan. Assumes nothing.
use Rattle.std.specs.Prelude.{◌≡◌, ℕ, ◌<◌, List, ◌++◌, length, drop, Ok, Err, Result, ◌≢◌}
use Rattle.plant.specs.Lasting.{Hopeless}
use Rattle.plant.specs.Meaning.{Meaning}
use Rattle.rules.specs.Limits.{most_rules}
use Rattle.rules.specs.declared.Rule.{Rule}
use Rattle.reader.specs.declared.phase.Phase.TheVariants.{Closed}
use Rattle.draft.specs.Rows.{rows_of}
use Rattle.draft.specs.Starts.{Lost}
use Rattle.draft.specs.declared.fault.DraftFault.TheVariants.{RowCount, RulePlaces, LostStart}
use Rattle.rule_file.specs.Encoding.{rules_bytes}
use Rattle.rule_file.specs.Order.{InOrder}
use Rattle.rule_file.specs.Outcome.{ReadInWords}
use Rattle.rule_file.specs.Reading.{read_rules}
use Rattle.rule_file.specs.declared.fault.RuleFileFault.{RuleFileFault}
use Rattle.rule_file.specs.declared.fault.RuleFileFault.TheVariants as rule_file
use Rattle.rule_file.specs.declared.fault.RuleFileFault.TheVariants.{FileRoom}
use Rattle.log_file.specs.Outcome.{Ran}
use Rattle.plan.specs.Admitted.{Admitted}
use Rattle.plan.specs.Judging.{judge}
use Rattle.plan.specs.Kept.{Fails, Pleads}
use Rattle.plan.specs.Machine.{Parts, plan_meaning}
use Rattle.plan.specs.Refused.{Stores}
use Rattle.plan.specs.declared.fault.PlanFault.TheVariants.{Memory}
use Rattle.archive.specs.Drafting.{Hopeful, draft_rules}
use Rattle.archive.specs.Right.{Right}
use Rattle.archive.specs.declared.fault.ArchiveFault.{ArchiveFault}
use Rattle.archive.specs.declared.fault.ArchiveFault.TheVariants.{Plan, Rules}
use Rattle.archive.specs.declared.fault.DraftFileFault.{DraftFileFault}
use Rattle.archive.specs.declared.fault.DraftFileFault.TheVariants as drafting
use Rattle.archive.specs.declared.judging.Verdict.{Verdict}

-- the file is that of some rules in order, and the verdict is what the log comes to on a new reader with these rules,
-- whoever wrote them
pub record JudgedBy (m : Meaning) (file log : List ℕ) (v : Verdict) : Type 0 where
  pub rules : List Rule
  pub in_order : InOrder m.bits m.lines rules
  pub written : file ≡ rules_bytes rules
  pub ran : Ran m rules Closed v.phase log v.outcome

-- a rule file that is turned away, for a list with a place for every rule that there can be: it is never full, and the sizes are in order
pub record TurnedAway (m : Meaning) (file : List ℕ) (f : RuleFileFault) : Type 0 where
  pub computed : read_rules m.bits m.lines most_rules file ≡ Err f
  pub places : List Rule
  pub enough : length places ≡ most_rules
  pub in_words : ReadInWords m.bits m.lines file places places (Err f)
  pub never_full : (offset : ℕ) → f ≢ rule_file.ListFull offset
  pub sizes_fit : f ≡ rule_file.SizeLimits → ⊥

abbrev pub Judged : Meaning → List ℕ → List ℕ → Result Verdict RuleFileFault → Type 0
Judged m file log (Ok v) = JudgedBy m file log v
Judged m file log (Err f) = TurnedAway m file f

-- by the rule file of the draft there is always a verdict, and it is right
abbrev pub RightByDraft : Meaning → List ℕ → List ℕ → Result Verdict RuleFileFault → Type 0
RightByDraft m file log r = Hopeful m → file ≡ rules_bytes (draft_rules m) → (v : Verdict) × (r ≡ Ok v) × Right m log v.outcome v.phase

-- the answer for a plan, a rule file and a log
abbrev pub Archived : List ℕ → List ℕ → List ℕ → Result Verdict ArchiveFault → Type 0
Archived plan file log (Ok v) = (p : Parts) × (judge plan ≡ Ok p) × Admitted p × JudgedBy (plan_meaning p) file log v
Archived plan file log (Err (Plan f)) = Fails (judge plan) f × Pleads (Stores plan) f
Archived plan file log (Err (Rules f)) = (p : Parts) × (judge plan ≡ Ok p) × Admitted p × TurnedAway (plan_meaning p) file f

-- a right verdict, unless memory was wanting
abbrev pub RightOrNoMemory : Meaning → List ℕ → Result Verdict ArchiveFault → Type 0
RightOrNoMemory m log (Ok v) = Right m log v.outcome v.phase
RightOrNoMemory m log (Err (Plan f)) = f ≡ Memory
RightOrNoMemory m log (Err (Rules f)) = ⊥

-- from the plan that is admitted and whose draft is not refused, and the rule file of that draft, to the verdict on every log
abbrev pub WholeChain : List ℕ → List ℕ → List ℕ → Result Verdict ArchiveFault → Type 0
WholeChain plan file log r = (p : Parts) → judge plan ≡ Ok p → Hopeful (plan_meaning p) → file ≡ rules_bytes (draft_rules (plan_meaning p)) → RightOrNoMemory (plan_meaning p) log r

-- the draft went through, and the first k bytes are the file of its rules
pub record Filed (m : Meaning) (file file' : List ℕ) (k : ℕ) : Type 0 where
  pub hope : Hopeful m
  pub number : k ≡ length (rules_bytes (draft_rules m))
  pub bytes : file' ≡ rules_bytes (draft_rules m) ++ drop k file

-- the draft went through, and its file needs more bytes than were lent
pub record NoRoom (m : Meaning) (file file' : List ℕ) (needed : ℕ) : Type 0 where
  pub hope : Hopeful m
  pub number : needed ≡ length (rules_bytes (draft_rules m))
  pub short : length file < needed
  pub same : file' ≡ file

-- no lasting set holds every start, and start t is the lowest that does not last
pub record NotDrafted (m : Meaning) (file file' : List ℕ) (t : ℕ) : Type 0 where
  pub hopeless : Hopeless m
  pub lost : Lost m (rows_of m) t
  pub same : file' ≡ file

-- the answer for a plant, and the bytes lent for the file before and after
abbrev pub DraftedFile : Meaning → List ℕ → List ℕ → Result ℕ DraftFileFault → Type 0
DraftedFile m file file' (Ok k) = Filed m file file' k
DraftedFile m file file' (Err (drafting.Plan f)) = ⊥
DraftedFile m file file' (Err (drafting.Draft (LostStart t))) = NotDrafted m file file' t
DraftedFile m file file' (Err (drafting.Draft (RowCount needed))) = ⊥
DraftedFile m file file' (Err (drafting.Draft (RulePlaces needed))) = ⊥
DraftedFile m file file' (Err (drafting.Rules (FileRoom needed))) = NoRoom m file file' needed
DraftedFile m file file' (Err (drafting.Rules (rule_file.Bytes f))) = ⊥
DraftedFile m file file' (Err (drafting.Rules rule_file.SizeLimits)) = ⊥
DraftedFile m file file' (Err (drafting.Rules (rule_file.Misplaced offset))) = ⊥
DraftedFile m file file' (Err (drafting.Rules (rule_file.ListFull offset))) = ⊥

-- the plan was admitted, and that is the answer for its plant
abbrev pub OfPlan : List ℕ → List ℕ → List ℕ → Result ℕ DraftFileFault → Type 0
OfPlan plan file file' r = (p : Parts) × (judge plan ≡ Ok p) × Admitted p × DraftedFile (plan_meaning p) file file' r

-- the answer for a plan, and the bytes lent for the file before and after
abbrev pub RuleFileOf : List ℕ → List ℕ → List ℕ → Result ℕ DraftFileFault → Type 0
RuleFileOf plan file file' (Ok k) = OfPlan plan file file' (Ok k)
RuleFileOf plan file file' (Err (drafting.Plan f)) = Fails (judge plan) f × Pleads (Stores plan) f × (file' ≡ file)
RuleFileOf plan file file' (Err (drafting.Draft f)) = OfPlan plan file file' (Err (drafting.Draft f))
RuleFileOf plan file file' (Err (drafting.Rules f)) = OfPlan plan file file' (Err (drafting.Rules f))
