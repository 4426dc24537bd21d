-- How lines are stored.
use Rattle.std.specs.Prelude.{ℕ, ◌≡◌, ◌≤◌, ◌<◌, List, length, Option, Some, None}
use Rattle.std.specs.List.{last_or}
use Rattle.mcs_text.specs.declared.mark.Mark.{Mark}
use Rattle.mcs_text.specs.Lines.{start_of, end_of}

-- the digits are those of the last mark's time. There is no mark only if there are no bytes.
abbrev pub IsReached : ℕ → ℕ → Option Mark → Type 0
IsReached used digits None = used ≡ 0
IsReached used digits (Some mark) = (0 < used) × (mark.moment ≡ digits)

-- the lines of a mark end at or after their start, and within all lines
abbrev pub AreInOrder : ℕ → List Mark → Type 0
AreInOrder used marks =
    (place : ℕ) → place < length marks → (start_of marks place ≤ end_of used marks place) × (end_of used marks place ≤ used)

pub record AreKept (bytes : List ℕ) (used : ℕ) (marks : List Mark) (digits : ℕ) : Type 0 where
  pub within : used ≤ length bytes
  pub reached : IsReached used digits (last_or None marks)
  pub in_order : AreInOrder used marks
