-- The draft of a plant, written as a rule file. Assumes nothing.
use Rattle.std.proofs.Common.{◌≡◌, ℕ, ◌-◌, ◌^◌, List, ◌++◌, length, take, drop, Ok, Err, Result, sym, refl, ap, ◌∙◌, subst, ⊎_elim, arith}
use Rattle.std.proofs.lemmas.List.{take_at, length-take-le}
use Rattle.std.proofs.lemmas.Bool.{cases_lt}
use Rattle.plant.specs.Meaning.{Meaning, Within, states, most_bits}
use Rattle.plant.proofs.Limits.{few_states}
use Rattle.rules.specs.Limits.{most_rules}
use Rattle.rules.specs.Listing.{rules_of}
use Rattle.rules.specs.declared.Rule.{Rule}
use Rattle.draft.specs.Outcome.{Answered, Drafted, WentThrough}
use Rattle.draft.specs.Starts.{Lost}
use Rattle.draft.specs.declared.fault.DraftFault.{DraftFault}
use Rattle.draft.specs.declared.fault.DraftFault.TheVariants.{RowCount, RulePlaces, LostStart}
use Rattle.draft.proofs.Places.{few_places}
use Rattle.rule_file.specs.Encoding.{rules_bytes}
use Rattle.rule_file.specs.Outcome.{Written}
use Rattle.rule_file.specs.declared.fault.RuleFileFault.{RuleFileFault}
use Rattle.rule_file.specs.declared.fault.RuleFileFault.TheVariants.{FileRoom}
use Rattle.archive.specs.Drafting.{Hopeful, draft_rules}
use Rattle.archive.specs.Outcome.{DraftedFile}
use Rattle.archive.specs.declared.fault.DraftFileFault.TheVariants.{Draft, Rules}

-- memory for the largest plant has the right lengths for each plant
pub answered : (m : Meaning) → Within m → (n : ℕ) (rows rows' : List ℕ) (list list' : List Rule) (r : Result ℕ DraftFault) → n ≡ states m → length rows ≡ 2 ^ most_bits → length list ≡ most_rules
    → Drafted m (take (n - 0) rows) rows' list list' r → Answered m rows' list list' r
answered m within n rows rows' list list' r is many places drafted =
    let few = few_places m within in
    let all = few_states m within in
    drafted.answered (length-take-le (n - 0) rows (omega arith) ∙ (let e : n - 0 ≡ states m = omega arith in e)) (omega arith)

module _ (m : Meaning) (rows : List ℕ) (list list' : List Rule) where
  pub drafted_err : (file : List ℕ) (f : DraftFault) → Answered m rows list list' (Err f) → DraftedFile m file file (Err (Draft f))
  drafted_err file (RowCount needed) none = absurd none
  drafted_err file (RulePlaces needed) none = absurd none
  drafted_err file (LostStart t) away = record {
    hopeless = away.hopeless;
    lost = subst (λ xs. Lost m xs t) away.filled.computed away.lost;
    same = refl;
  }

  -- the rules that were written by the draft
  pub drafted_rules : (n : ℕ) → WentThrough m rows list list' n → take (n - 0) list' ≡ draft_rules m
  drafted_rules n through =
      let exact : n - 0 ≡ n = omega arith in
      ap (λ k. take k list') exact ∙ ap (take n) through.rules ∙ take_at (rules_of m.bits m.lines rows) (drop n list) n (sym through.number) ∙
      ap (rules_of m.bits m.lines) through.filled.computed

module _ (m : Meaning) (hope : Hopeful m) (file file' : List ℕ) where
  -- the rule file of the draft was written, or there was no room
  pub written_ok : (k : ℕ) → Written (draft_rules m) file file' (Ok k) → DraftedFile m file file' (Ok k)
  written_ok k w =
      ⊎_elim
      (λ short. absurd (let is = (w.refused short).0 in let z : ◌≡◌ {A = ℕ} 0 1 = cc in omega arith))
      (λ room.
      let h = w.wrote room in
      let is = h.0 in
      let same : k ≡ length (rules_bytes (draft_rules m)) = cc in
      record { hope = hope; number = same; bytes = h.1 ∙ ap (λ i. rules_bytes (draft_rules m) ++ drop i file) (sym same) })
      (cases_lt (length file) (length (rules_bytes (draft_rules m))))

  pub written_err : (f : RuleFileFault) → Written (draft_rules m) file file' (Err f) → DraftedFile m file file' (Err (Rules f))
  written_err f w =
      ⊎_elim
      (λ short.
      let h = w.refused short in
      let is = h.0 in
      let same : FileRoom (length (rules_bytes (draft_rules m))) ≡ f = cc in
      subst (λ (x : RuleFileFault). DraftedFile m file file' (Err (Rules x))) same (record { hope = hope; number = refl; short = short; same = h.1 }))
      (λ room. absurd (let is = (w.wrote room).0 in let z : ◌≡◌ {A = ℕ} 0 1 = cc in omega arith))
      (cases_lt (length file) (length (rules_bytes (draft_rules m))))
