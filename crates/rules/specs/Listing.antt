-- The rules of a table of rows: as a list that computes, and in words. Assumes nothing.
use Rattle.std.specs.Prelude.{◌≡◌, ℕ, zero, suc, ◌%◌, ◌^◌, ◌<◌, Bool, true, false, cond, not, ◌&&◌, ◌⊎◌, List, [], ◌∷◌, ◌++◌, length, ◌==◌, slice_index, slice_index_or}
use mathlib.Core.List.{Memᴰ}
use Rattle.plant.specs.Bounded.{any_below}
use Rattle.plant.specs.Bits.{bit}
use Rattle.plant.specs.Tests.{same}
use Rattle.rules.specs.declared.Rule.{Rule}

-- f 0, then f 1, and so on up to f (n - 1)
abbrev pub concat_below : {X : Type 0} → (ℕ → List X) → ℕ → List X
concat_below f zero = []
concat_below f (suc n) = concat_below f n ++ f n

-- whether setting a begins with prefix p on the lines below j, and has line j at v
abbrev pub goes_on : ℕ → ℕ → ℕ → Bool → Bool
goes_on a j p v = a % 2 ^ j == p && same (bit a j) v

-- whether some open setting (bit a of the row is 1) begins with prefix p and has line j at v, where there are n lines
abbrev pub some_open : ℕ → ℕ → ℕ → ℕ → Bool → Bool
some_open n row j p v = any_below (λ a. bit row a && goes_on a j p v) (2 ^ n)

-- the rule for line j after prefix p, where the open settings leave line j just one value
abbrev pub rule_at : ℕ → ℕ → ℕ → ℕ → ℕ → List Rule
rule_at n row s j p =
    cond (some_open n row j p true)
    (cond (some_open n row j p false) [] (record { state = s; line = j; prefix = p; value = true } ∷ []))
    (cond (some_open n row j p false) (record { state = s; line = j; prefix = p; value = false } ∷ []) [])

-- the rules for line j, by prefix
abbrev pub rules_of_line : ℕ → ℕ → ℕ → ℕ → List Rule
rules_of_line n row s j = concat_below (λ p. rule_at n row s j p) (2 ^ j)

-- the rules of state s, by line
abbrev pub rules_of_state : ℕ → ℕ → ℕ → List Rule
rules_of_state n row s = concat_below (λ j. rules_of_line n row s j) n

-- the rules of all states, where there are b state bits and n lines
abbrev pub rules_of : ℕ → ℕ → List ℕ → List Rule
rules_of b n rows = concat_below (λ s. rules_of_state n (slice_index rows s) s) (2 ^ b)

-- some open setting of state s begins with prefix p and has line j at v
abbrev pub SomeOpen : ℕ → List ℕ → ℕ → ℕ → ℕ → Bool → Type 0
SomeOpen n rows s j p v = (a : ℕ) × (a < 2 ^ n) × (bit (slice_index rows s) a ≡ true) × (a % 2 ^ j ≡ p) × (bit a j ≡ v)

-- the rule is in range, some open setting of its state has its prefix and its value, and none has its prefix and the other value
pub record Stands (b n : ℕ) (rows : List ℕ) (r : Rule) : Type 0 where
  pub state : r.state < 2 ^ b
  pub line : r.line < n
  pub prefix : r.prefix < 2 ^ r.line
  pub one_way : SomeOpen n rows r.state r.line r.prefix r.value
  pub not_other : SomeOpen n rows r.state r.line r.prefix (not r.value) → ⊥

-- by state, then line, then prefix
abbrev pub Before : Rule → Rule → Type 0
Before r q = (r.state < q.state) ⊎ ((r.state ≡ q.state) × ((r.line < q.line) ⊎ ((r.line ≡ q.line) × (r.prefix < q.prefix))))

-- the list has just the rules that stand, in ascending order
pub record ListsStanding (b n : ℕ) (rows : List ℕ) (rs : List Rule) : Type 0 where
  pub only : (r : Rule) → Memᴰ r rs → Stands b n rows r
  pub every : (r : Rule) → Stands b n rows r → Memᴰ r rs
  pub ascends : (i k : ℕ) (d : Rule) → i < k → k < length rs → Before (slice_index_or rs i d) (slice_index_or rs k d)
