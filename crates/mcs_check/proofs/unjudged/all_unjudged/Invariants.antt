use Rattle.std.proofs.Common.{◌≡◌, List}
use Rattle.std.specs.List.{filter_map, range_with_len}
use Rattle.mcs_ticks.specs.declared.row.Row.{Row}
use Rattle.mcs_verdict.specs.Findings.{UpTo}
use Rattle.mcs_check.specs.Judged.{unjudged}
use Rattle.mcs_check.specs.stored.Threads.{threads_of}
use Rattle.mcs_check.proofs.unjudged.all_unjudged.Given as goal

abbrev pub invariant-loop-number : goal.invariant-loop-number
invariant-loop-number l =
    (past : List Row) → l.watch ≡ threads_of l.parts past → UpTo l.horizon past
    → l.all.items ≡ filter_map (unjudged l.parts past l.horizon) (range_with_len 0 l.number)
