use Rattle.std.proofs.Common.{◌≡◌, ◌++◌, List, drop}
use Rattle.mcs_ticks.specs.declared.row.Row.{Row}
use Rattle.mcs_verdict.specs.Findings.{untaken_at_end}
use Rattle.mcs_verdict.specs.Watch.{watch_of}
use Rattle.mcs_verdict.proofs.all.keep_untaken.Given as goal

abbrev pub invariant-loop-number : goal.invariant-loop-number
invariant-loop-number l =
    (past : List Row) → l.watch ≡ watch_of l.parts past
    → l.found.items ++ untaken_at_end l.parts past l.horizon l.number (drop l.number l.parts.notes)
    ≡ l.initial.found.items ++ untaken_at_end l.parts past l.horizon 0 l.parts.notes
