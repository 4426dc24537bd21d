use Rattle.std.proofs.Common.{◌≡◌, ◌++◌, drop}
use Rattle.std.specs.Io.{StartsWith}
use Rattle.mcs_ever_told.specs.Formats.{lines_text}
use Rattle.mcs_ever_told.proofs.line.put.append_lines.Given as goal

abbrev pub invariant-loop-line : goal.invariant-loop-line
invariant-loop-line l = record {
  rest : l.text.items ++ lines_text l.format l.system (drop l.line-index l.lines) ≡ l.initial.text.items ++ lines_text l.format l.system l.lines;
  kept : StartsWith l.text.items l.initial.text.items;
}
