-- Numbers that are capped at the maximum of 64 bits.
use Rattle.std.specs.Prelude.{ℕ, ◌+◌, ◌-◌, ◌^◌, min}

-- a number, or the maximum of 64 bits if it is greater
abbrev pub capped : ℕ → ℕ
capped n = min n (2 ^ 64 - 1)

-- one more, capped at the maximum of 64 bits
abbrev pub one_more : ℕ → ℕ
one_more n = capped (n + 1)
