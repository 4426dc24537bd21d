-- The lines of the rows of a span as they come.
use Rattle.std.specs.Prelude.{ℕ, if◌then◌else◌, List, []}
use Rattle.mcs_ticks.specs.declared.row.Row.{Row}
use Rattle.mcs_system.specs.System.{System}
use Rattle.mcs_why.specs.Running.{is_within}
use Rattle.mcs_check_words.specs.declared.asked.Format.{Format}
use Rattle.mcs_why_lines.specs.Rows.{row_line}

-- the line of a row, if it is one of the core in [from, to]
abbrev pub line_at : Format → System → ℕ → ℕ → ℕ → Row → List ℕ
line_at how system core from to r = if is_within core from to r then row_line how system r else []
