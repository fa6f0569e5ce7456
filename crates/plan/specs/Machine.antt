-- What a clause plan means: as tests that compute, and in words. Assumes nothing.
use Rattle.std.specs.Prelude.{◌≡◌, ℕ, ◌^◌, ◌<◌, Bool, not, ◌&&◌, List, Decides, nat_lt}
use mathlib.Core.List.{Memᴰ}
use Rattle.plant.specs.Bits.{bit}
use Rattle.plant.specs.Bounded.{all_below, any_below}
use Rattle.plant.specs.Meaning.{Meaning}
use Rattle.std.specs.List.{list_all, list_any}
use Rattle.plant.specs.Conditions.{holds, Holds}
use Rattle.plan.specs.Clauses.{clause_true, ClauseTrue}
use Rattle.plan.specs.Extension.{word_of, forced}
use Rattle.plan.specs.Items.{always}
use Rattle.plan.specs.declared.clause.Clause.{Clause}
use Rattle.plant.specs.declared.condition.Condition.{Condition}

-- the sizes of a plan and its clauses, each kind in file order
pub record Parts : Type 0 where
  pub bits : ℕ
  pub lines : ℕ
  pub auxiliaries : ℕ
  pub starts : List Clause
  pub nexts : List Clause
  pub auxes : List Clause
  pub bans : List Condition

-- the extension of (s, a) by the assignment x of the auxiliaries
abbrev pub extension : Parts → ℕ → ℕ → ℕ → ℕ
extension p s a x = word_of p.bits p.lines s a x

-- whether a word fits the auxiliary clauses
abbrev pub fits_word : Parts → ℕ → Bool
fits_word p w = list_all (clause_true w) p.auxes

-- whether a word fits and some ban holds in it
abbrev pub banned : Parts → ℕ → Bool
banned p w = fits_word p w && list_any (λ ban. holds ban w) p.bans

-- whether a word fits and forces no bit against t
abbrev pub allows : Parts → ℕ → ℕ → Bool
allows p t w = fits_word p w && holds (forced w p.nexts always) t

-- whether s is a state and a a setting
abbrev pub is_pair : Parts → ℕ → ℕ → Bool
is_pair p s a = nat_lt s (2 ^ p.bits) && nat_lt a (2 ^ p.lines)

-- the plan as a plant
abbrev pub plan_meaning : Parts → Meaning
plan_meaning p = record {
  bits = p.bits;
  lines = p.lines;
  start = λ t. nat_lt t (2 ^ p.bits) && list_all (clause_true t) p.starts;
  safe = λ s a. is_pair p s a && all_below (λ x. not (banned p (extension p s a x))) (2 ^ p.auxiliaries);
  follows = λ s a t. (is_pair p s a && nat_lt t (2 ^ p.bits)) && any_below (λ x. allows p t (extension p s a x)) (2 ^ p.auxiliaries);
}

-- an extension fits when each auxiliary clause is true in it
abbrev pub Fits : Parts → ℕ → Type 0
Fits p w = (c : Clause) → Memᴰ c p.auxes → ClauseTrue w c

-- each start clause is true of t
abbrev pub Start : Parts → ℕ → Type 0
Start p t = (c : Clause) → Memᴰ c p.starts → ClauseTrue t c

-- no ban is true in any fitting extension
abbrev pub Safe : Parts → ℕ → ℕ → Type 0
Safe p s a = (x : ℕ) → x < 2 ^ p.auxiliaries → Fits p (extension p s a x) → (ban : Condition) → Memᴰ ban p.bans → Holds ban (extension p s a x) → ⊥

-- some fitting extension forces no bit against t: each next clause whose condition holds in it has its letter of t at its value
abbrev pub Follows : Parts → ℕ → ℕ → ℕ → Type 0
Follows p s a t =
    (x : ℕ) × (x < 2 ^ p.auxiliaries) × Fits p (extension p s a x)
    × ((c : Clause) → Memᴰ c p.nexts → Holds c.condition (extension p s a x) → bit t c.letter ≡ c.value)

-- the plant's starts, safe pairs and followings, in these words
pub record PlanWords (p : Parts) (m : Meaning) : Type 0 where
  pub bits : m.bits ≡ p.bits
  pub lines : m.lines ≡ p.lines
  pub start : (t : ℕ) → t < 2 ^ p.bits → Decides (m.start t) (Start p t)
  pub safe : (s a : ℕ) → s < 2 ^ p.bits → a < 2 ^ p.lines → Decides (m.safe s a) (Safe p s a)
  pub follows : (s a t : ℕ) → s < 2 ^ p.bits → a < 2 ^ p.lines → t < 2 ^ p.bits → Decides (m.follows s a t) (Follows p s a t)
