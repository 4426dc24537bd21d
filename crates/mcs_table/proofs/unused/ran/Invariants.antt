use Rattle.std.proofs.Common.{◌≡◌, ◌+◌, ◌^◌, ◌<◌, List, drop}
use Rattle.mcs_ticks.specs.declared.row.Row.{Row}
use Rattle.mcs_verdict.specs.Findings.{UpTo}
use Rattle.mcs_verdict.specs.Watch.{watch_of}
use Rattle.mcs_ticks.specs.Capped.{capped}
use Rattle.mcs_table.specs.Unused.{ran_from}
use Rattle.mcs_table.proofs.unused.ran.Given as goal

abbrev pub invariant-loop-number : goal.invariant-loop-number
invariant-loop-number l =
    (l.ran < 2 ^ 64)
    × ((past : List Row) → l.watch ≡ watch_of l.parts past → UpTo l.horizon past
    → capped (l.ran + ran_from l.horizon past l.context l.number (drop l.number l.parts.threads))
    ≡ capped (ran_from l.horizon past l.context 0 l.parts.threads))
