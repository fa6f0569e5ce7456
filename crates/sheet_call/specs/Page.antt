-- The text of a sheet. Assumes nothing.
use Rattle.std.specs.Prelude.{ℕ, zero, suc, ◌+◌, Bool, cond, List, [], ◌∷◌, ◌++◌, map, length, codes, decimal}
use Rattle.std.specs.List.{range_with_len}
use Rattle.refusal.specs.Shown.{refusal_line}
use Rattle.refusal.specs.declared.Refusal.{Refusal}
use Rattle.rules.specs.Listing.{concat_below}

-- the byte that ends a line
abbrev pub line_end : List ℕ
line_end = 10 ∷ []

-- 1 for open, 0 for shut
abbrev pub digit : Bool → ℕ
digit is_open = cond is_open 49 48

-- a digit for each of so many settings, the first for setting 0
abbrev pub digits_of : ℕ → (ℕ → Bool) → List ℕ
digits_of settings open_at = map (λ a. digit (open_at a)) (range_with_len 0 settings)

-- the line of a state: its number, a space, a digit for each setting
abbrev pub state_line : ℕ → ℕ → (ℕ → Bool) → List ℕ
state_line settings s open_at = decimal s ++ (codes " " ++ (digits_of settings open_at ++ line_end))

-- the text of a sheet: a line for each of so many states, where the test says which settings are open in a state
abbrev pub sheet_text : ℕ → ℕ → (ℕ → ℕ → Bool) → List ℕ
sheet_text states settings open_at = concat_below (λ s. state_line settings s (open_at s)) states

-- where the line of state s begins: each line before it has a number, a space, the digits and an end
abbrev pub line_begins : ℕ → ℕ → ℕ
line_begins settings zero = 0
line_begins settings (suc s) = line_begins settings s + (length (decimal s) + (settings + 2))

-- where the digit of setting a stands in the line of state s: after the number and the space
abbrev pub digit_place : ℕ → ℕ → ℕ → ℕ
digit_place settings s a = line_begins settings s + (length (decimal s) + (1 + a))

-- the text of a refusal: its line
abbrev pub refusal_text : Refusal → List ℕ
refusal_text r = refusal_line r ++ line_end
