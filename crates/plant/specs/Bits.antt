-- Numbers as rows of bits. Assumes nothing.
use Rattle.std.specs.Prelude.{ℕ, zero, suc, ◌+◌, ◌/◌, ◌%◌, ◌^◌, Bool, cond, ◌==◌}

-- whether bit i of x is 1
abbrev pub bit : ℕ → ℕ → Bool
bit x i = x / 2 ^ i % 2 == 1

-- the number whose bits below n are as p says, and whose other bits are 0
abbrev pub pack : (ℕ → Bool) → ℕ → ℕ
pack p zero = 0
pack p (suc n) = cond (p n) (2 ^ n) 0 + pack p n
