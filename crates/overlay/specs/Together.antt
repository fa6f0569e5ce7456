-- Drafts under two lists of bans, one by one and together. Assumes nothing.
use Rattle.std.specs.Prelude.{◌≡◌, ℕ, true, ◌&&◌, List, [], ◌∷◌, ◌++◌, ◌==◌, bit_and, nat_le, nat_lt}
use Rattle.plant.specs.Meaning.{Meaning, Within}
use Rattle.plant.specs.declared.condition.Condition.{Condition}
use Rattle.draft.specs.Rows.{open_in, rows_of}
use Rattle.layers.specs.Banned.{banned_meaning}

-- what the draft has open under both lists of bans, it has open under each
abbrev pub WithinEach : Type 0
WithinEach =
    (m : Meaning) → Within m → (first second : List Condition) (s a : ℕ) → open_in (rows_of (banned_meaning m (first ++ second))) s a ≡ true →
    (open_in (rows_of (banned_meaning m first)) s a ≡ true) × (open_in (rows_of (banned_meaning m second)) s a ≡ true)

-- one state bit, one line: the line off leads to state 0, the line on to either state; every pair is safe; a session starts in state 0
abbrev pub small_machine : Meaning
small_machine = record {
  bits = 1;
  lines = 1;
  start = λ t. (t == 0);
  safe = λ s a. nat_lt s 2 && nat_lt a 2;
  follows = λ s a t. (nat_lt s 2 && nat_lt a 2) && nat_le t a;
}

-- never the line off in state 1
abbrev pub never_off : Condition
never_off = record { ones = 1; zeros = 2 }

-- never the line on in state 1
abbrev pub never_on : Condition
never_on = record { ones = 3; zeros = 0 }

-- rows laid over each other
abbrev pub overlay : List ℕ → List ℕ → List ℕ
overlay [] ys = []
overlay (x ∷ xs) [] = []
overlay (x ∷ xs) (y ∷ ys) = bit_and x y ∷ overlay xs ys

-- under either ban both settings of state 0 are open (3), and so they are in the rows laid over each other; under both bans only
-- setting 0 is (1), since setting 1 may lead to state 1, where nothing is left
pub record SmallerTogether : Type 0 where
  pub machine : Within small_machine
  pub first : rows_of (banned_meaning small_machine (never_off ∷ [])) ≡ 3 ∷ (2 ∷ [])
  pub second : rows_of (banned_meaning small_machine (never_on ∷ [])) ≡ 3 ∷ (1 ∷ [])
  pub laid_over : overlay (rows_of (banned_meaning small_machine (never_off ∷ []))) (rows_of (banned_meaning small_machine (never_on ∷ []))) ≡ 3 ∷ (0 ∷ [])
  pub together : rows_of (banned_meaning small_machine (never_off ∷ (never_on ∷ []))) ≡ 1 ∷ (0 ∷ [])
