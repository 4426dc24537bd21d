-- The rows that a core recorded: from one time to before another.
use Rattle.std.specs.Prelude.{ℕ}

pub record Span : Type 0 where
  pub core : ℕ
  pub first : ℕ
  pub past : ℕ
