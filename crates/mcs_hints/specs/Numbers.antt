-- Numbers of notifications, contexts or cores.
use Rattle.std.specs.Prelude.{ℕ, List}
use Rattle.std.specs.List.{range_with_len}

-- the first n numbers, from 0 on
abbrev pub numbers : ℕ → List ℕ
numbers n = range_with_len 0 n
