-- Verdicts by rule files, and by the rule file of a draft. Assumes nothing.
use Rattle.std.proofs.Common.{◌≡◌, ℕ, ◌≤◌, List, [], ◌∷◌, ◌++◌, length, take, drop, Ok, Err, Result, sym, refl, ap, ◌∙◌, subst, arith}
use Rattle.std.proofs.lemmas.List.{length_push, take_at}
use Rattle.plant.specs.Meaning.{Meaning, Within, states}
use Rattle.records.proofs.Finding.{err_ok}
use Rattle.rules.specs.Limits.{most_rules}
use Rattle.rules.specs.declared.Rule.{Rule}
use Rattle.rules.proofs.Listing.{lists_standing, states_length}
use Rattle.reader.specs.declared.phase.Phase.TheVariants.{Closed}
use Rattle.draft.specs.Rows.{rows_of}
use Rattle.draft.proofs.Largest.{hope_faithful}
use Rattle.draft.proofs.Places.{few_places}
use Rattle.rule_file.specs.Encoding.{rules_bytes}
use Rattle.rule_file.specs.Order.{InOrder}
use Rattle.plant.specs.Sizes.{Limits}
use Rattle.rule_file.specs.Outcome.{Read, ReadInWords, Whole}
use Rattle.rule_file.specs.Reading.{Reads, read_rules, counted, filled}
use Rattle.rule_file.specs.declared.fault.RuleFileFault.{RuleFileFault}
use Rattle.rule_file.specs.declared.fault.RuleFileFault.TheVariants.{SizeLimits, ListFull}
use Rattle.rule_file.proofs.Counting.{few_rules}
use Rattle.rule_file.proofs.Records.{same_rules}
use Rattle.log_file.specs.Outcome.{Ran}
use Rattle.plan.specs.Judging.{judge}
use Rattle.plan.specs.Machine.{Parts, plan_meaning}
use Rattle.plan.specs.declared.fault.PlanFault.{PlanFault}
use Rattle.archive.specs.Drafting.{Hopeful, draft_rules}
use Rattle.archive.specs.Outcome.{JudgedBy, TurnedAway, RightByDraft, WholeChain}
use Rattle.archive.specs.Right.{Right}
use Rattle.archive.specs.declared.fault.ArchiveFault.TheVariants.{Rules}
use Rattle.archive.specs.declared.judging.Verdict.{Verdict}
use Rattle.archive.proofs.Law.{run_right}

-- a refusal is counted as it was computed
computed_err : (x : Reads) (f : RuleFileFault) → Err f ≡ counted x → x ≡ Err f
computed_err (Ok rs) f is = absurd (err_ok f (length rs) is)
computed_err (Err g) f is = let same : g ≡ f = cc in ap Err same

module _ (m : Meaning) (within : Within m) where
  pub sizes : Limits m.bits m.lines
  sizes = record { some_bits = within.some_bits; few_bits = within.few_bits; some_lines = within.some_lines; few_lines = within.few_lines }

  -- the rules of a draft are in order, and there are not more than there can be
  pub draft_in_order : InOrder m.bits m.lines (draft_rules m)
  draft_in_order =
      let standing = lists_standing m.lines (rows_of m) m.bits in
      record {
        ranges = λ r here. let s = standing.only r here in (s.state, s.line, s.prefix);
        ascends = standing.ascends;
      }

  pub draft_few : length (draft_rules m) ≤ most_rules
  draft_few = let few = states_length m.lines (rows_of m) (states m) in let p = few_places m within in omega arith

  module _ (file log : List ℕ) where
    -- by the rule file of the draft
    judged_right : (v : Verdict) → JudgedBy m file log v → Hopeful m → file ≡ rules_bytes (draft_rules m) → Right m log v.outcome v.phase
    judged_right v j hope drafted =
        let same : draft_rules m ≡ j.rules = same_rules (draft_rules m) j.rules (sym drafted ∙ j.written) in
        run_right m within j.rules (subst (λ rs. Rattle.reader.specs.Strings.Faithful m rs) same (hope_faithful m within hope.0 hope.1 hope.2)) v.phase log v.outcome j.ran.in_words

    -- a file that was read, and the run with its rules
    pub judged_whole : (list list' : List Rule) (k : ℕ) (front : List Rule) (v : Verdict) → Whole m.bits m.lines file list list' k → front ≡ take k list' → Ran m front Closed v.phase log v.outcome → JudgedBy m file log v
    judged_whole list list' k front v w is ran =
        record {
          rules = w.rules;
          in_order = w.in_order;
          written = w.written;
          ran = subst (λ rs. Ran m rs Closed v.phase log v.outcome) (is ∙ ap (take k) w.places ∙ take_at w.rules (drop k list) k (sym w.number)) ran;
        }

    pub judged_ok : (v : Verdict) → JudgedBy m file log v → RightByDraft m file log (Ok v)
    judged_ok v j hope drafted = (v, refl, judged_right v j hope drafted)

    -- a file that was turned away is not that of the draft
    module _ (list list' : List Rule) (enough : length list ≡ most_rules) (f : RuleFileFault) (read : Read m.bits m.lines file list list' (Err f)) where
      comes : read_rules m.bits m.lines (length list) file ≡ Err f
      comes = computed_err (read_rules m.bits m.lines (length list) file) f read.computed

      words : ReadInWords m.bits m.lines file list list (Err f)
      words = subst (λ xs. ReadInWords m.bits m.lines file list xs (Err f)) (read.places ∙ ap (λ x. filled x list) comes) read.in_words

      never_full : (offset : ℕ) → f ≡ ListFull offset → ⊥
      never_full offset is =
          let w = subst (λ (x : RuleFileFault). ReadInWords m.bits m.lines file list list (Err x)) is words in
          let t = w.there.1 in
          let more = few_rules m.bits m.lines (w.rules ++ (t.0 ∷ [])) t.3 in
          let size = length_push w.rules t.0 in
          let full = t.4 in
          let few = few_places m within in
          omega arith

      sizes_fit : f ≡ SizeLimits → ⊥
      sizes_fit is = (subst (λ (x : RuleFileFault). ReadInWords m.bits m.lines file list list (Err x)) is words).0 sizes

      pub turned_away : TurnedAway m file f
      turned_away = record {
        computed = subst (λ k. read_rules m.bits m.lines k file ≡ Err f) enough comes;
        places = list;
        enough = enough;
        in_words = words;
        never_full = never_full;
        sizes_fit = sizes_fit;
      }

      pub not_drafted : RightByDraft m file log (Err f)
      not_drafted hope drafted =
          let few = draft_few in
          absurd (err_ok f (length (draft_rules m)) (read.accepts (draft_rules m) sizes draft_in_order (omega arith) drafted).0)

-- the plan that was judged is the one that was read
module _ (plan file log : List ℕ) (q : Parts) (read : judge plan ≡ Ok q) where
  same_parts : (p : Parts) → judge plan ≡ Ok p → q ≡ p
  same_parts p is = let e : ◌≡◌ {A = Result Parts PlanFault} (Ok q) (Ok p) = sym read ∙ is in cc

  pub chain_ok : (v : Verdict) → RightByDraft (plan_meaning q) file log (Ok v) → WholeChain plan file log (Ok v)
  chain_ok v right p is =
      subst (λ (x : Parts). Hopeful (plan_meaning x) → file ≡ rules_bytes (draft_rules (plan_meaning x)) → Right (plan_meaning x) log v.outcome v.phase) (same_parts p is)
      (λ hope drafted.
      let w = right hope drafted in
      let e = w.1 in
      let same : w.0 ≡ v = cc in
      subst (λ (x : Verdict). Right (plan_meaning q) log x.outcome x.phase) same w.2)

  pub chain_err : (f : RuleFileFault) → RightByDraft (plan_meaning q) file log (Err f) → WholeChain plan file log (Err (Rules f))
  chain_err f right p is =
      subst (λ (x : Parts). Hopeful (plan_meaning x) → file ≡ rules_bytes (draft_rules (plan_meaning x)) → ⊥) (same_parts p is)
      (λ hope drafted. let w = right hope drafted in err_ok f w.0 w.1)
