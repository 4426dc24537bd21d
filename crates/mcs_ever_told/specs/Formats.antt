-- The lines of a check for all time, in each format.
use Rattle.std.specs.Prelude.{List, flat_map}
use Rattle.mcs_fields.specs.Fields.{Text, object_text}
use Rattle.mcs_system.specs.System.{System}
use Rattle.mcs_ever_told.specs.declared.line.Line.{Line}
use Rattle.mcs_ever_told.specs.declared.line.LineFormat.{LineFormat}
use Rattle.mcs_ever_told.specs.declared.line.LineFormat.TheVariants as format
use Rattle.mcs_ever_told.specs.Fields.{line_fields}
use Rattle.mcs_ever_told.specs.Texts.{words_text}

-- a line in words, or as a JSON object
abbrev pub line_text : LineFormat → System → Line → Text
line_text format.Text system told = words_text system told
line_text format.Json system told = object_text (line_fields system told)

-- lines, one after another
abbrev pub lines_text : LineFormat → System → List Line → Text
lines_text how system told = flat_map (line_text how system) told
