-- A rule and when a setting fits. Assumes nothing.
use Rattle.std.specs.Prelude.{◌≡◌, ℕ, ◌%◌, ◌^◌, ◌<◌, Bool, not, ◌&&◌, List, ◌==◌, nat_lt}
use mathlib.Core.List.{Memᴰ}
use Rattle.std.specs.List.{list_all}
use Rattle.plant.specs.Bits.{bit}
use Rattle.plant.specs.Tests.{same}
use Rattle.rules.specs.declared.Rule.{Rule}

-- the rule is of a state below 2 ^ b, a line below n and a prefix below 2 ^ line: any other rule binds nothing
abbrev pub in_range : ℕ → ℕ → Rule → Bool
in_range b n r = nat_lt r.state (2 ^ b) && (nat_lt r.line n && nat_lt r.prefix (2 ^ r.line))

-- whether the rule speaks of state s and of settings whose first lines are set as those of a
abbrev pub applies : Rule → ℕ → ℕ → Bool
applies r s a = r.state == s && a % 2 ^ r.line == r.prefix

-- whether setting a breaks the rule in state s
abbrev pub breaks : ℕ → ℕ → Rule → ℕ → ℕ → Bool
breaks b n r s a = in_range b n r && (applies r s a && not (same (bit a r.line) r.value))

-- whether setting a breaks none of the rules in state s, where there are b state bits and n lines
abbrev pub fits : ℕ → ℕ → List Rule → ℕ → ℕ → Bool
fits b n rs s a = list_all (λ r. not (breaks b n r s a)) rs

-- line j of setting a is on where bit j of a is 1: a rule in range, of state s, whose prefix a begins with, has its line in a at its value
pub record Obeys (b n : ℕ) (s a : ℕ) (r : Rule) : Type 0 where
  pub value : r.state < 2 ^ b → r.line < n → r.prefix < 2 ^ r.line → r.state ≡ s → a % 2 ^ r.line ≡ r.prefix → bit a r.line ≡ r.value

-- setting a obeys every rule of the list in state s
abbrev pub Fits : ℕ → ℕ → List Rule → ℕ → ℕ → Type 0
Fits b n rs s a = (r : Rule) → Memᴰ r rs → Obeys b n s a r
