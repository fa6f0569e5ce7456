-- The plans of the worked cases. Assumes nothing.
use Rattle.std.specs.Prelude.{ℕ, List, [], ◌∷◌, ◌++◌, take, drop}

-- a mask of this number, below 256
abbrev mask : ℕ → List ℕ
mask n = 0 ∷ (0 ∷ (0 ∷ (n ∷ [])))

-- a ones mask and a zeros mask
abbrev masks : ℕ → ℕ → List ℕ
masks ones zeros = mask ones ++ mask zeros

-- a head, a start clause, a next clause, a ban, the end
abbrev head : ℕ → ℕ → ℕ → List ℕ
head b n m = 1 ∷ (b ∷ (n ∷ (m ∷ [])))

abbrev start : ℕ → ℕ → List ℕ
start letter value = 2 ∷ (letter ∷ (value ∷ []))

abbrev next : ℕ → ℕ → ℕ → ℕ → List ℕ
next letter value ones zeros = 3 ∷ (letter ∷ (value ∷ masks ones zeros))

abbrev ban : ℕ → ℕ → List ℕ
ban ones zeros = 5 ∷ masks ones zeros

abbrev end : List ℕ
end = 15 ∷ []

-- two state bits and a line; bit 1 is 0 at the start and follows the line; where the line is on, bit 0 is 0 next;
-- never bit 1 with the line on, and never bit 0 with the line off
abbrev pub brake : List ℕ
brake = head 2 1 0 ++ (start 1 0 ++ (next 1 1 4 0 ++ (next 1 0 0 4 ++ (next 0 0 4 0 ++ (ban 6 0 ++ (ban 1 4 ++ end))))))

-- the bytes without those from one offset up to another
abbrev pub without : List ℕ → ℕ → ℕ → List ℕ
without bytes from to = take from bytes ++ drop to bytes

-- the bytes with the masks of the next clause at an offset replaced
abbrev pub with_masks : List ℕ → ℕ → ℕ → ℕ → ℕ → List ℕ
with_masks bytes body after ones zeros = take body bytes ++ (masks ones zeros ++ drop after bytes)

-- a state bit, a line and an auxiliary without clauses; never the line with the auxiliary
abbrev pub free_auxiliary : List ℕ
free_auxiliary = head 1 1 1 ++ (ban 6 0 ++ end)

-- nine state bits
abbrev pub too_many_bits : List ℕ
too_many_bits = head 9 1 0 ++ end
