-- The line of a row of the schedule, in each format.
use Rattle.mcs_ticks.specs.declared.row.Row.{Row}
use Rattle.mcs_fields.specs.Fields.{Text}
use Rattle.mcs_system.specs.System.{System}
use Rattle.mcs_text.specs.Text.{row_text}
use Rattle.mcs_check_words.specs.declared.asked.Format.{Format}
use Rattle.mcs_check_lines.specs.Formats.{written}
use Rattle.mcs_why_lines.specs.RowFields.{row_fields}

-- as words, as a row of CSV or as a JSON object
abbrev pub row_line : Format → System → Row → Text
row_line how system r = written how (row_text system r) (row_fields system r)
