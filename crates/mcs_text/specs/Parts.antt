-- Lines that wait to be written, and the text that they are given to.
use Rattle.std.specs.Prelude.{◌≡◌, ◌≢◌, ℕ, ◌+◌, ◌-◌, ◌<◌, ◌≤◌, Bool, if◌then◌else◌, List, [], ◌++◌, length, fold, Option, option_map, slice_get}
use Rattle.mcs_ticks.specs.declared.row.Row.{Row}
use Rattle.mcs_ticks.specs.Given.{Given}
use Rattle.mcs_merge.specs.Merge.{rows_at, DoNotFall}
use Rattle.mcs_merge.specs.Parts.{first_moment, AreHeld}
use Rattle.mcs_system.specs.System.{System}
use Rattle.mcs_text.specs.Text.{row_text, schedule_text}
use Rattle.mcs_text.specs.Lines.{Lines, no_lines, with_row, text_at, moment_of}

-- a text of a system: only the bytes of its lines are known
pub record Text : Type 0 where
  pub system : System
  pub bytes : List ℕ

abbrev pub no_text : System → Text
no_text system = record { system = system; bytes = [] }

abbrev pub with_bytes : Text → List ℕ → Text
with_bytes text more = record text { bytes = text.bytes ++ more }

-- how a text takes a row. If it refuses the row, it is unchanged.
abbrev pub TakesText : Text → Row → Bool → Text → Type 0
TakesText before row taken after = after ≡ (if taken then with_bytes before (row_text before.system row) else before)

-- a part: lines; those from this mark on wait
pub record LinesPart : Type 0 where
  pub lines : Lines
  pub place : ℕ

-- the time of the first mark that waits
abbrev pub next_of : LinesPart → Option ℕ
next_of part = option_map (λ mark. mark.moment) (slice_get part.lines.marks part.place)

-- the number of marks that wait
abbrev pub left_of : LinesPart → ℕ
left_of part = length part.lines.marks - part.place

-- without the lines of the first mark that waits
abbrev pub passed : LinesPart → LinesPart
passed part = record part { place = part.place + 1 }

-- the waiting lines of a part are those of these rows, with a mark at each of their times only
pub record HoldsRows (system : System) (part : LinesPart) (rows : List Row) : Type 0 where
  pub of_system : part.lines.system ≡ system
  pub in_order : DoNotFall rows
  pub first : next_of part ≡ first_moment rows
  pub rising : (k : ℕ) → part.place ≤ k → k + 1 < length part.lines.marks →
      moment_of part.lines.marks k < moment_of part.lines.marks (k + 1)
  pub texts : (k : ℕ) → part.place ≤ k → k < length part.lines.marks →
      text_at part.lines k ≡ schedule_text system (rows_at (moment_of part.lines.marks k) rows)
  pub some : (k : ℕ) → part.place ≤ k → k < length part.lines.marks → rows_at (moment_of part.lines.marks k) rows ≢ []
  pub all : (t : ℕ) → ((k : ℕ) → part.place ≤ k → k < length part.lines.marks → moment_of part.lines.marks k ≢ t) → rows_at t rows ≡ []

-- each list of rows lies in the parts of its core, one part after another
abbrev pub HoldLines : System → List (List LinesPart) → List (List Row) → Type 0
HoldLines system cores lists = AreHeld (λ (text : Text) part rows. HoldsRows text.system part rows) (no_text system) cores lists

-- lines that were empty and were given rows in order of time hold these rows
abbrev pub LinesHoldRows : Type 0
LinesHoldRows =
    (system : System) (rows : List Row) (lines : Lines) → lines ≡ fold with_row (no_lines system) rows → DoNotFall rows →
    HoldsRows system (record { lines = lines; place = 0 }) rows

-- after rows, or parts that held them, were given to a text, their lines follow the earlier ones,
-- in the order of the rows
abbrev pub TextGrows : Type 0
TextGrows =
    (before after : Text) (rows : List Row) → Given TakesText before rows after →
    after ≡ with_bytes before (schedule_text before.system rows)
