-- Lines of a core's turns, with the number of their rows.
use Rattle.std.specs.Prelude.{◌≡◌, ℕ, ◌+◌, Bool, if◌then◌else◌, List, length, fold}
use Rattle.mcs_ticks.specs.declared.row.Row.{Row}
use Rattle.mcs_system.specs.System.{System}
use Rattle.mcs_text.specs.Lines.{Lines, no_lines, with_row}

-- lines, and the number of their rows
pub record ToldLines : Type 0 where
  pub lines : Lines
  pub rows : ℕ

abbrev pub nothing_told : System → ToldLines
nothing_told system = record { lines = no_lines system; rows = 0 }

abbrev pub one_more : ToldLines → Row → ToldLines
one_more told r = record { lines = with_row told.lines r; rows = told.rows + 1 }

-- how the lines take a row. If they refuse it, they stay as they were.
abbrev pub TakesTold : ToldLines → Row → Bool → ToldLines → Type 0
TakesTold before r taken after = after ≡ (if taken then one_more before r else before)

-- the lines hold rows: lines, marks and number are those of these rows
pub record HoldsTold (told : ToldLines) (rows : List Row) : Type 0 where
  pub lines : told.lines ≡ fold with_row (no_lines told.lines.system) rows
  pub many : told.rows ≡ length rows
