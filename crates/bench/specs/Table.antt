-- What a bench table means. Assumes nothing.
use Rattle.std.specs.Prelude.{◌≡◌, ℕ, ◌^◌, Bool, true, ◌&&◌, List, Decides, ◌==◌, nat_eq}
use mathlib.Core.List.{Memᴰ}
use Rattle.plant.specs.Meaning.{Meaning}
use Rattle.plant.specs.Entries.{start_fits}
use Rattle.bench.specs.Entries.{move_fits}
use Rattle.plant.specs.Sizes.{sizes_fit}
use Rattle.std.specs.List.{list_all, list_any}
use Rattle.bench.specs.declared.entry.Move.{Move}

-- the sizes are within their limits, and every entry within the sizes
abbrev pub table_fits : ℕ → ℕ → List ℕ → List Move → Bool
table_fits b n starts moves = sizes_fit b n && (list_all (start_fits (2 ^ b) (2 ^ n)) starts && list_all (move_fits (2 ^ b) (2 ^ n)) moves)

-- whether the move goes from state s by setting a
abbrev pub leaves : ℕ → ℕ → Move → Bool
leaves s a v = v.from == s && v.setting == a

-- whether the move goes from state s by setting a to state t
abbrev pub goes : ℕ → ℕ → ℕ → Move → Bool
goes s a t v = leaves s a v && v.to == t

-- a start is a listed start, a following a listed move, and a pair is safe where it has a move
abbrev pub table_meaning : ℕ → ℕ → List ℕ → List Move → Meaning
table_meaning b n starts moves = record {
  bits = b;
  lines = n;
  start = λ t. list_any (nat_eq t) starts;
  safe = λ s a. list_any (leaves s a) moves;
  follows = λ s a t. list_any (goes s a t) moves;
}

-- the same in words
pub record TableWords (b n : ℕ) (starts : List ℕ) (moves : List Move) (m : Meaning) : Type 0 where
  pub bits : m.bits ≡ b
  pub lines : m.lines ≡ n
  pub start : (t : ℕ) → Decides (m.start t) (Memᴰ t starts)
  pub follows : (s a t : ℕ) → Decides (m.follows s a t) (Memᴰ (record { from = s; setting = a; to = t }) moves)
  pub safe : (s a : ℕ) → Decides (m.safe s a) ((t : ℕ) × (m.follows s a t ≡ true))
