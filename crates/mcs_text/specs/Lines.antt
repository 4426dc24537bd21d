-- Lines of rows, with marks at which times begin.
use Rattle.std.specs.Prelude.{◌≡◌, ℕ, ◌+◌, ◌==◌, Bool, false, ◌<◌, ◌≤◌, if◌then◌else◌, List, [], ◌∷◌, ◌++◌, length, get_or, slice_range, fold, Option, Some, None}
use Rattle.std.specs.List.{last_or}
use Rattle.mcs_ticks.specs.declared.row.Row.{Row}
use Rattle.mcs_ticks.specs.Given.{Given}
use Rattle.mcs_merge.specs.Merge.{rows_at}
use Rattle.mcs_system.specs.System.{System}
use Rattle.mcs_text.specs.declared.mark.Mark.{Mark}
use Rattle.mcs_text.specs.Text.{row_text, schedule_text}

-- lines of a system's rows: their bytes, and a mark at the start of each time's lines
pub record Lines : Type 0 where
  pub system : System
  pub bytes : List ℕ
  pub marks : List Mark

abbrev pub no_lines : System → Lines
no_lines system = record { system = system; bytes = []; marks = [] }

abbrev pub is_of : ℕ → Option Mark → Bool
is_of moment None = false
is_of moment (Some mark) = mark.moment == moment

-- the marks after a line of this time is appended: one more, unless the last mark has that time
abbrev pub marked : ℕ → ℕ → List Mark → List Mark
marked moment start marks =
    if is_of moment (last_or None marks) then marks else marks ++ (record { moment = moment; start = start }) ∷ []

-- with the line of a further row
abbrev pub with_row : Lines → Row → Lines
with_row lines r =
    record lines {
      bytes = lines.bytes ++ row_text lines.system r;
      marks = marked r.moment (length lines.bytes) lines.marks;
    }

-- how lines take a row. If they refuse it, they stay as they were.
abbrev pub TakesLine : Lines → Row → Bool → Lines → Type 0
TakesLine before row taken after = after ≡ (if taken then with_row before row else before)

-- start of a mark's lines
abbrev pub start_of : List Mark → ℕ → ℕ
start_of marks place = (get_or marks place (record { moment = 0; start = 0 })).start

-- end of a mark's lines: at the next mark, or at the end of all lines
abbrev pub end_of : ℕ → List Mark → ℕ → ℕ
end_of end marks place = (get_or marks (place + 1) (record { moment = 0; start = end })).start

-- the bytes from a mark to the next one, or to the end of all lines
abbrev pub text_at : Lines → ℕ → List ℕ
text_at lines place = slice_range lines.bytes (start_of lines.marks place) (end_of (length lines.bytes) lines.marks place)

-- after rows were given to lines, theirs follow the earlier ones, in the order of the rows
abbrev pub GivenAreLines : Type 0
GivenAreLines =
    (before after : Lines) (rows : List Row) → Given TakesLine before rows after →
    (after ≡ fold with_row before rows)
    × (after.system ≡ before.system)
    × (after.bytes ≡ before.bytes ++ schedule_text before.system rows)

-- rows in order of time, from this time on
abbrev pub ComeInTime : ℕ → List Row → Type 0
ComeInTime moment [] = Unit {0}
ComeInTime moment (r ∷ rows) = (moment ≤ r.moment) × ComeInTime r.moment rows

-- the time of this mark
abbrev pub moment_of : List Mark → ℕ → ℕ
moment_of marks place = (get_or marks place (record { moment = 0; start = 0 })).moment

-- if rows are in order of time, the text at a mark is that of the rows of its time
abbrev pub TextsAreOfMoments : Type 0
TextsAreOfMoments =
    (system : System) (rows : List Row) (lines : Lines) → lines ≡ fold with_row (no_lines system) rows → ComeInTime 0 rows →
    (place : ℕ) → place < length lines.marks → text_at lines place ≡ schedule_text system (rows_at (moment_of lines.marks place) rows)
