-- How names are stored.
use Rattle.std.specs.Prelude.{ℕ, ◌≡◌, List, [], get_or}

-- the name at this index, or the empty one
abbrev pub name_at : List (List ℕ) → ℕ → List ℕ
name_at names place = get_or names place []

-- each name lies at its index, and there are no others
abbrev pub AreNames : (ℕ → List ℕ) → List (List ℕ) → Type 0
AreNames name_of names = (place : ℕ) → name_at names place ≡ name_of place
