-- What the record at an offset says, and whether it is in order. Assumes nothing.
use Rattle.std.specs.Prelude.{ℕ, ◌+◌, ◌*◌, Bool, false, cond, not, ◌&&◌, ◌||◌, List, ◌==◌, bit_and, bit_or, nat_le, nat_lt, slice_index}
use Rattle.plant.specs.Conditions.{masks_below}
use Rattle.plant.specs.Tests.{same}
use Rattle.plan.specs.declared.clause.Clause.{Clause}
use Rattle.plant.specs.declared.condition.Condition.{Condition}

-- the byte at an index, 0 past the end
abbrev pub byte : List ℕ → ℕ → ℕ
byte bs i = slice_index bs i

-- a mask: four bytes, most significant first
abbrev pub mask_at : List ℕ → ℕ → ℕ
mask_at bs i = byte bs i * 16777216 + byte bs (i + 1) * 65536 + byte bs (i + 2) * 256 + byte bs (i + 3)

-- a ones mask and then a zeros mask
abbrev pub condition_at : List ℕ → ℕ → Condition
condition_at bs i = record { ones = mask_at bs i; zeros = mask_at bs (i + 4) }

-- a condition that is always true
abbrev pub always : Condition
always = record { ones = 0; zeros = 0 }

-- what the record at the offset says: a ban (05) has only a condition, a start clause (02) none
abbrev pub clause_at : List ℕ → ℕ → ℕ → Clause
clause_at bs o code =
    cond (code == 5) (record { letter = 0; value = false; condition = condition_at bs (o + 1) })
    (record { letter = byte bs (o + 1); value = (byte bs (o + 2) == 1); condition = cond (code == 2) always (condition_at bs (o + 3)) })

-- the letter is of the sort that the kind wants: a state bit, or an auxiliary (04)
abbrev pub letter_fits : ℕ → ℕ → ℕ → ℕ → ℕ → Bool
letter_fits b n m code l = cond (code == 4) (nat_le (b + n) l && nat_lt l (b + n + m)) (nat_lt l b)

-- letter, value and masks are in order
abbrev pub item_fits : ℕ → ℕ → ℕ → List ℕ → ℕ → ℕ → Bool
item_fits b n m bs o code =
    (code == 5 || (letter_fits b n m code (byte bs (o + 1)) && nat_le (byte bs (o + 2)) 1))
    && masks_below (b + n + m) (clause_at bs o code).condition

-- two clauses for one letter with opposite values, whose conditions can be true together
abbrev pub clash : Clause → Clause → Bool
clash c d =
    (c.letter == d.letter && not (same c.value d.value))
    && bit_and (bit_or c.condition.ones d.condition.ones) (bit_or c.condition.zeros d.condition.zeros) == 0
