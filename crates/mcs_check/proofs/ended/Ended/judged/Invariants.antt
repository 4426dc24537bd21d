use Rattle.std.proofs.Common.{◌≡◌, List, length}
use Rattle.mcs_ticks.specs.Capped.{capped}
use Rattle.mcs_ticks.specs.declared.row.Row.{Row}
use Rattle.mcs_system.specs.System.{System}
use Rattle.mcs_check.specs.stored.Threads.{ended_of}
use Rattle.mcs_check.proofs.EndedRounds.{rounds_below}
use Rattle.mcs_check.proofs.ended.Ended.judged.Given as goal

abbrev pub invariant-loop-number : goal.invariant-loop-number
invariant-loop-number l =
    (system : System) (past : List Row) → l.threads ≡ system.threads → l.self ≡ ended_of (length system.threads) past
    → l.judged ≡ capped (rounds_below system l.number past)
