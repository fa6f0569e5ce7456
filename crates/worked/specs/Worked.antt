-- The worked cases, about the definitions that the contracts of the calls cite. Assumes nothing.
use Rattle.std.specs.Prelude.{◌≡◌, ℕ, Bool, true, false, List, [], ◌∷◌, ◌++◌, map, Some, None, Ok, Err, codes, Option}
use Rattle.refusal.specs.Shown.{refusal}
use Rattle.refusal.specs.declared.Layer.TheVariants.{Bytes, Plan, Log}
use Rattle.refusal.specs.declared.Refusal.{Refusal}
use Rattle.rules.specs.declared.Rule.{Rule}
use Rattle.rule_file.specs.Encoding.{rules_bytes}
use Rattle.reader.specs.Faults.{log_refusal}
use Rattle.reader.specs.Step.{Answer}
use Rattle.reader.specs.Strings.{answers, phase_after}
use Rattle.reader.specs.declared.call.Call.{Call}
use Rattle.reader.specs.declared.call.Call.TheVariants.{Begin, Set, See}
use Rattle.reader.specs.declared.phase.Phase.TheVariants.{Closed, Driven}
use Rattle.plan.specs.Judging.{judge}
use Rattle.plan.specs.Machine.{Parts, plan_meaning}
use Rattle.sheet_call.specs.Faults.{sheet_refusal}
use Rattle.sheet_call.specs.Making.{Made, sheet_of}
use Rattle.sheet_call.specs.Page.{line_end}
use Rattle.worked.specs.Plans.{without, with_masks, free_auxiliary, too_many_bits}

-- the refusal of a call of the log reader, if any
abbrev pub call_refusal : Answer → Option Refusal
call_refusal (Ok _) = None
call_refusal (Err f) = Some (log_refusal f)

-- the refusal of a sheet, if any
abbrev pub made_refusal : Made → Option Refusal
made_refusal made = elim made.answer [ Ok _ ↦ None | Err f ↦ sheet_refusal f ]

-- the text of a sheet that is one line
abbrev pub Prints : List ℕ → List ℕ → Type 0
Prints bytes line = (sheet_of bytes).text ≡ line ++ line_end

-- in state s, if the lines below j are set as p, line j has the value
abbrev pub rule : ℕ → ℕ → ℕ → Bool → Rule
rule s j p v = record { state = s; line = j; prefix = p; value = v }

-- begin 2, begin 1, set 2, set 0, set 1, see 3, see 2, set 0
abbrev pub calls : List Call
calls = Begin 2 ∷ (Begin 1 ∷ (Set 2 ∷ (Set 0 ∷ (Set 1 ∷ (See 3 ∷ (See 2 ∷ (Set 0 ∷ [])))))))

-- the cases; most are about the brake plan, some with a record of it changed
pub record Worked (brake : List ℕ) : Type 0 where
  pub empty_input : made_refusal (sheet_of []) ≡ Some (refusal 1 0 Bytes)
  pub sheet : (sheet_of brake).text ≡ (codes "0 11" ++ line_end) ++ ((codes "1 01" ++ line_end) ++ ((codes "2 10" ++ line_end) ++ (codes "3 00" ++ line_end)))
  pub rules : (sheet_of brake).rules ≡ rule 1 0 0 true ∷ (rule 2 0 0 false ∷ [])
  pub rule_file : rules_bytes (sheet_of brake).rules ≡ 33 ∷ (1 ∷ (0 ∷ (0 ∷ (1 ∷ (33 ∷ (2 ∷ (0 ∷ (0 ∷ (0 ∷ (47 ∷ []))))))))))
  pub without_third_next : Prints (without brake 29 40) (codes "refused 10 0 draft")
  pub without_start : Prints (without brake 4 7) (codes "refused 10 3 draft")
  pub clashing : made_refusal (sheet_of (with_masks brake 21 29 4 0)) ≡ Some (refusal 9 18 Plan)
  pub free : (sheet_of free_auxiliary).text ≡ (codes "0 10" ++ line_end) ++ (codes "1 10" ++ line_end)
  pub sizes : made_refusal (sheet_of too_many_bits) ≡ Some (refusal 4 0 Plan)
  pub parts : Parts
  pub judged : judge brake ≡ Ok parts
  pub read : map call_refusal (answers (plan_meaning parts) (sheet_of brake).rules Closed calls)
      ≡ Some (refusal 16 2 Log) ∷ (None ∷ (Some (refusal 12 2 Log) ∷ (Some (refusal 17 0 Log) ∷ (None ∷ (Some (refusal 18 3 Log) ∷ (None ∷ (None ∷ [])))))))
  pub phase : phase_after (plan_meaning parts) (sheet_of brake).rules Closed calls ≡ Driven 2 0
