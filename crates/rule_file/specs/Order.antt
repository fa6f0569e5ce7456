-- When a list of rules is in order. Assumes nothing.
use Rattle.std.specs.Prelude.{ℕ, ◌^◌, ◌<◌, Bool, true, ◌&&◌, ◌||◌, List, [], ◌∷◌, length, Some, None, Option, ◌==◌, nat_lt, slice_index_or}
use mathlib.Core.List.{Memᴰ}
use Rattle.rules.specs.Listing.{Before}
use Rattle.rules.specs.declared.Rule.{Rule}

-- every rule is of a state, a line and a prefix that there is, and the rules ascend by state, line and prefix
pub record InOrder (b n : ℕ) (rs : List Rule) : Type 0 where
  pub ranges : (r : Rule) → Memᴰ r rs → (r.state < 2 ^ b) × (r.line < n) × (r.prefix < 2 ^ r.line)
  pub ascends : (i k : ℕ) (d : Rule) → i < k → k < length rs → Before (slice_index_or rs i d) (slice_index_or rs k d)

-- whether a rule comes before another
abbrev pub before : Rule → Rule → Bool
before r q = nat_lt r.state q.state || (r.state == q.state && (nat_lt r.line q.line || (r.line == q.line && nat_lt r.prefix q.prefix)))

-- the last rule of a list, where it has one
abbrev pub last_rule : List Rule → Option Rule
last_rule [] = None
last_rule (r ∷ []) = Some r
last_rule (r ∷ (q ∷ qs)) = last_rule (q ∷ qs)

-- whether a rule comes after the one before it, where there is one
abbrev pub comes_after : Option Rule → Rule → Bool
comes_after None r = true
comes_after (Some q) r = before q r
