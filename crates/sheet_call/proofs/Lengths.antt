-- How long the text of a sheet can be, and where its digits stand. Assumes nothing.
use Rattle.std.proofs.Common.{◌≡◌, ℕ, zero, suc, ◌+◌, ◌*◌, ◌^◌, ◌<◌, ◌≤◌, Bool, ◌++◌, length, get_or, codes, decimal, sym, refl, ap, ◌∙◌, subst, ⊎_elim, suc-mul, mul-le-mul, arith}
use Rattle.std.proofs.lemmas.List.FromFn.{length-map-range_with_len, get_or-map-range_with_len}
use Rattle.std.proofs.lemmas.Fmt.{length-decimal-le}
use Rattle.std.proofs.lemmas.List.{length-append, get_or-append-add, get_or_append_left}
use Rattle.std.proofs.lemmas.Bool.{cases_eq}
use Rattle.plant.specs.Meaning.{most_bits, most_lines}
use Rattle.sheet_call.specs.Page.{digit, digits_of, line_end, state_line, sheet_text, line_begins, digit_place}
use Rattle.sheet_call.specs.Room.{text_needed}

-- the number of a state has three digits at most
pub state_number : (s : ℕ) → s < 2 ^ most_bits → length (decimal s) ≤ 3
state_number s lt = length-decimal-le 3 s (omega arith) (omega arith) (omega arith)

pub digits_length : (settings : ℕ) (open_at : ℕ → Bool) → length (digits_of settings open_at) ≡ settings
digits_length settings open_at = length-map-range_with_len (λ a. digit (open_at a)) 0 settings

-- a number, a space, the digits and the end
pub line_length : (settings s : ℕ) (open_at : ℕ → Bool) → s < 2 ^ most_bits → length (state_line settings s open_at) ≤ 5 + settings
line_length settings s open_at lt =
    let number = state_number s lt in
    let digits = digits_length settings open_at in
    let l₁ = length-append (decimal s) (codes " " ++ (digits_of settings open_at ++ line_end)) in
    let l₂ = length-append (codes " ") (digits_of settings open_at ++ line_end) in
    let l₃ = length-append (digits_of settings open_at) line_end in
    omega arith

pub lines_length : (settings : ℕ) (open_at : ℕ → ℕ → Bool) (s : ℕ) → s ≤ 2 ^ most_bits → length (sheet_text s settings open_at) ≤ s * (5 + settings)
lines_length settings open_at zero few = omega arith
lines_length settings open_at (suc s) few =
    let before = lines_length settings open_at s (omega arith) in
    let line = line_length settings s (open_at s) (omega arith) in
    let l = length-append (sheet_text s settings open_at) (state_line settings s (open_at s)) in
    let step = suc-mul s (5 + settings) in
    omega arith

-- the line of a state that is left has room
pub line_room : (settings s end : ℕ) → settings ≤ 2 ^ most_lines → s < 2 ^ most_bits → end ≤ s * (5 + settings) → end + (5 + settings) ≤ text_needed
line_room settings s end few lt ends =
    let all : suc s * (5 + settings) ≤ 2 ^ most_bits * (5 + 2 ^ most_lines) = mul-le-mul {m₁ = 5 + settings} {m₂ = 5 + 2 ^ most_lines} lt (omega arith) in
    let step = suc-mul s (5 + settings) in
    omega arith

-- the lines before a state are as long as the place where its line begins
lines_begin : (settings : ℕ) (open_at : ℕ → ℕ → Bool) (s : ℕ) → length (sheet_text s settings open_at) ≡ line_begins settings s
lines_begin settings open_at zero = refl
lines_begin settings open_at (suc s) =
    let before = lines_begin settings open_at s in
    let digits = digits_length settings (open_at s) in
    let l = length-append (sheet_text s settings open_at) (state_line settings s (open_at s)) in
    let l₁ = length-append (decimal s) (codes " " ++ (digits_of settings (open_at s) ++ line_end)) in
    let l₂ = length-append (codes " ") (digits_of settings (open_at s) ++ line_end) in
    let l₃ = length-append (digits_of settings (open_at s)) line_end in
    omega arith

digit_in_line : (settings s a : ℕ) (open_at : ℕ → Bool) → a < settings → get_or (state_line settings s open_at) (length (decimal s) + (1 + a)) 0 ≡ digit (open_at a)
digit_in_line settings s a open_at lt =
    let rest = digits_of settings open_at ++ line_end in
    let size = digits_length settings open_at in
    get_or-append-add (decimal s) (codes " " ++ rest) (1 + a) 0
    ∙ get_or-append-add (codes " ") rest a 0
    ∙ get_or_append_left (digits_of settings open_at) line_end 0 a (omega arith)
    ∙ get_or-map-range_with_len (λ k. digit (open_at k)) 0 settings a a 0 lt (omega arith)

-- a digit lies before the line of each later state
place_before : (settings s a : ℕ) → a < settings → (n : ℕ) → s < n → digit_place settings s a < line_begins settings n
place_before settings s a lt zero within = absurd (omega arith)
place_before settings s a lt (suc n) within =
    ⊎_elim
    (λ is. subst (λ k. digit_place settings s a < line_begins settings (suc k)) is (omega arith))
    (λ ne. let before = place_before settings s a lt n (omega arith) in omega arith)
    (cases_eq s n)

-- the digit of a setting in the line of a state
pub digit_there : (settings : ℕ) (open_at : ℕ → ℕ → Bool) (s a : ℕ) → a < settings → (n : ℕ) → s < n → get_or (sheet_text n settings open_at) (digit_place settings s a) 0 ≡ digit (open_at s a)
digit_there settings open_at s a lt zero within = absurd (omega arith)
digit_there settings open_at s a lt (suc n) within =
    let before = sheet_text n settings open_at in
    let begin = lines_begin settings open_at n in
    ⊎_elim
    (λ is.
    subst (λ k. get_or (before ++ state_line settings n (open_at n)) (digit_place settings k a) 0 ≡ digit (open_at k a)) (sym is)
    (ap (λ k. get_or (before ++ state_line settings n (open_at n)) (k + (length (decimal n) + (1 + a))) 0) (sym begin)
    ∙ get_or-append-add before (state_line settings n (open_at n)) (length (decimal n) + (1 + a)) 0
    ∙ digit_in_line settings n a (open_at n) lt))
    (λ ne.
    let place = place_before settings s a lt n (omega arith) in
    get_or_append_left before (state_line settings n (open_at n)) 0 (digit_place settings s a) (omega arith)
    ∙ digit_there settings open_at s a lt n (omega arith))
    (cases_eq s n)
