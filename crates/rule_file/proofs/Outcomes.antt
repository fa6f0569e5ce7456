-- Reading a rule file as a whole. Assumes nothing.
use Rattle.std.proofs.Common.{◌≡◌, ℕ, ◌*◌, ◌≤◌, Bool, true, false, cond, List, [], ◌∷◌, ◌++◌, map, length, take, drop, Ok, Err, Decides, Result, sym, refl, ap, ◌∙◌, subst, arith}
use Rattle.std.specs.List.{range_with_len}
use Rattle.std.proofs.lemmas.List.{length-append, take_at}
use Rattle.std.proofs.lemmas.Bool.{both_ways, cond-true, cond-false}
use Rattle.plant.proofs.Limits.{limits_from, limits_fit}
use Rattle.rules.specs.declared.Rule.{Rule}
use Rattle.rule_file.specs.Encoding.{end_code, records_bytes, rules_bytes}
use Rattle.plant.specs.Sizes.{Limits, sizes_fit}
use Rattle.rule_file.specs.Outcome.{Read, ReadInWords}
use Rattle.rule_file.specs.Reading.{Reads, rule_at, read_records, read_rules, counted, filled}
use Rattle.rule_file.specs.declared.fault.RuleFileFault.{RuleFileFault}
use Rattle.rule_file.specs.declared.fault.RuleFileFault.TheVariants.{SizeLimits}
use Rattle.rule_file.proofs.Accepting.{accepted, rules_back}
use Rattle.rule_file.proofs.Records.{records_length}
use Rattle.rule_file.proofs.Words.{read_words}

sizes_decide : (b n : ℕ) → Decides (sizes_fit b n) (Limits b n)
sizes_decide b n = (limits_from b n, limits_fit b n)

module _ (b n : ℕ) (bytes : List ℕ) (list : List Rule) where
  abbrev records : Reads
  records = read_records b n (length list) bytes (length bytes) [] 0

  whole_words : (t : Bool) → sizes_fit b n ≡ t → ReadInWords b n bytes list (filled (cond t records (Err SizeLimits)) list) (counted (cond t records (Err SizeLimits)))
  whole_words true fit = read_words b n ((sizes_decide b n).0 fit) bytes list
  whole_words false out = (λ s. both_ways (sizes_fit b n) out ((sizes_decide b n).1 s), refl)

  -- what is computed is what reading comes to
  pub read_whole : Read b n bytes list (filled (read_rules b n (length list) bytes) list) (counted (read_rules b n (length list) bytes))
  read_whole =
      let w = whole_words (sizes_fit b n) refl in
      record {
        computed = refl;
        places = refl;
        in_words = w;
        accepts = λ rules sizes ok room is. accepted b n bytes list (filled (read_rules b n (length list) bytes) list) rules sizes ok room is (counted (read_rules b n (length list) bytes)) w;
      }

  -- with sizes out of their limits
  pub read_sizes : sizes_fit b n ≡ false → Read b n bytes list list (Err SizeLimits)
  read_sizes out = subst (λ x. Read b n bytes list (filled x list) (counted x)) (cond-false (sizes_fit b n) records (Err SizeLimits) out) read_whole

  module _ (fit : sizes_fit b n ≡ true) where
    read_known : (x : Reads) → records ≡ x → Read b n bytes list (filled x list) (counted x)
    read_known x is = subst (λ y. Read b n bytes list (filled y list) (counted y)) (cond-true (sizes_fit b n) records (Err SizeLimits) fit ∙ is) read_whole

    pub read_refused : (f : RuleFileFault) → ◌≡◌ {A = Result ℕ RuleFileFault} (Err f) (counted records) → Read b n bytes list list (Err f)
    read_refused f e = by records refl e
      where
        by : (x : Reads) → records ≡ x → Err f ≡ counted x → Read b n bytes list list (Err f)
        by (Ok rs) is same = absurd (let z : ◌≡◌ {A = ℕ} 0 1 = cc in omega arith)
        by (Err g) is same = let h : g ≡ f = cc in subst (λ e. Read b n bytes list list (Err e)) h (read_known (Err g) is)

    -- the rules that were counted stand in the bytes
    pub record Counted (k : ℕ) : Type 0 where
      pub few_bytes : 5 * k ≤ length bytes
      pub few : k ≤ length list
      pub fills : Read b n bytes list (map (λ i. rule_at bytes (5 * i)) (range_with_len 0 k) ++ drop k list) (Ok k)

    pub read_counted : (k : ℕ) → ◌≡◌ {A = Result ℕ RuleFileFault} (Ok k) (counted records) → Counted k
    read_counted k e = by records refl e
      where
        with_rules : (rs : List Rule) → Read b n bytes list (rs ++ drop (length rs) list) (Ok (length rs)) → k ≡ length rs → Counted k
        with_rules rs read size =
            let w = read.in_words in
            let same : rs ≡ w.rules =
            sym (take_at rs (drop (length rs) list) (length rs) refl) ∙ ap (take (length rs)) w.places ∙ take_at w.rules (drop (length rs) list) (length rs) (sym w.number) in
            let written : bytes ≡ rules_bytes rs = w.written ∙ ap rules_bytes (sym same) in
            let back : map (λ i. rule_at bytes (5 * i)) (range_with_len 0 (length rs)) ≡ rs = ap (λ bs. map (λ i. rule_at bs (5 * i)) (range_with_len 0 (length rs))) written ∙ rules_back rs (end_code ∷ []) in
            let l = ap length written ∙ length-append (records_bytes rs) (end_code ∷ []) in
            let five = records_length rs in
            let room = w.room in
            let number = w.number in
            record {
              few_bytes = omega arith;
              few = omega arith;
              fills = subst (λ i. Read b n bytes list (map (λ j. rule_at bytes (5 * j)) (range_with_len 0 i) ++ drop i list) (Ok i)) (sym size)
                  (subst (λ xs. Read b n bytes list (xs ++ drop (length rs) list) (Ok (length rs))) (sym back) read);
            }

        by : (x : Reads) → records ≡ x → Ok k ≡ counted x → Counted k
        by (Ok rs) is same = let size : k ≡ length rs = cc in with_rules rs (read_known (Ok rs) is) size
        by (Err g) is same = absurd (let z : ◌≡◌ {A = ℕ} 0 1 = cc in omega arith)
