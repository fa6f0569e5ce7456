-- What a tally counts, and how it reads. Assumes nothing.
use Rattle.std.specs.Prelude.{ℕ, ◌+◌, ◌-◌, ◌^◌, min, Bool, cond, List, ◌++◌, codes, decimal}
use Rattle.tally.specs.declared.Tally.{Tally}

-- after one more case with this answer; the largest number stays
abbrev pub counted : Tally → Bool → Tally
counted t b = record { agreed = min (t.agreed + cond b 1 0) (2 ^ 64 - 1); all = min (t.all + 1) (2 ^ 64 - 1) }

-- "A of N"
abbrev pub tally_words : Tally → List ℕ
tally_words t = decimal t.agreed ++ (codes " of " ++ decimal t.all)
