-- How near a name is to another, for a name that is not known.
use Rattle.std.specs.Prelude.{ℕ, Bool, nat_lt, nat_le, nat_eq, if◌then◌else◌, List, length, Option, Some, None}
use Rattle.std.specs.Str.{chars}
use Rattle.strsim.specs.Edits.{levenshtein_row}

-- the edit distance of two names: the minimum count of insertions, deletions and changes of
-- characters
abbrev pub distance : List ℕ → List ℕ → ℕ
distance name other = levenshtein_row nat_eq (chars name) (chars other) (length (chars other))

-- the nearer of two names, the first if both are as near
abbrev pub nearer : List ℕ → Option (List ℕ) → List ℕ → List ℕ
nearer name None other = other
nearer name (Some near) other = if nat_lt (distance name other) (distance name near) then other else near

-- a text that may be a misspelt name: names have at most 32 bytes, so it has at most 64
abbrev pub is_short : List ℕ → Bool
is_short text = nat_le (length text) 64
