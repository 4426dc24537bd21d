use Rattle.std.proofs.Common.{◌≡◌, ◌++◌}
use Rattle.std.specs.List.{filter_map, range_with_len}
use Rattle.mcs_ever_told.specs.Lines.{lost_line}
use Rattle.mcs_ever_told.proofs.outlook.lines.push_losses.Given as goal

abbrev pub invariant-loop-note : goal.invariant-loop-note
invariant-loop-note l = l.lines.items ≡ l.initial.lines.items ++ filter_map (lost_line l.span.system.now l.span.own.now l.span.forever l.span.before.now l.span.after.now l.allowed) (range_with_len 0 l.note)
