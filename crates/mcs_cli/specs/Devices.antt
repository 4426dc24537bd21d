-- The number of bytes that a source has given, when a write has failed, and what is written until
-- one does.
use Rattle.std.specs.Prelude.{◌≡◌, ◌≤◌, ◌+◌, ◌-◌, ◌^◌, min, ℕ, Bool, true, List, length, take, Option, Result, Ok, Err, nat_lt, ◌==◌, ◌&&◌}
use Rattle.std.specs.Io.KnownBytes.{Appends}

-- bytes are counted: at most these, and at least these until the count reaches the maximum of 64
-- bits
pub record IsCounted (old new bytes : ℕ) : Type 0 where
  pub most : new ≤ old + bytes
  pub least : min (old + bytes) (2 ^ 64 - 1) ≤ new

-- a read counts the bytes that it gives. One that fails counts none.
abbrev pub CountsBytes : {E : Type 0} → ℕ → ℕ → Result ℕ E → Type 0
CountsBytes old new (Ok n) = IsCounted old new n
CountsBytes old new (Err e) = new ≡ old

-- a write of at least one byte that takes none has failed, too
abbrev pub has_write_failed : {E : Type 0} → List ℕ → Result ℕ E → Bool
has_write_failed bytes (Ok n) = n == 0 && nat_lt 0 (length bytes)
has_write_failed bytes (Err e) = true

-- known bytes grow by a first part of these
abbrev pub AppendsPrefix : Option (List ℕ) → Option (List ℕ) → List ℕ → Type 0
AppendsPrefix old new bytes = (n : ℕ) × Appends old new (take n bytes)
