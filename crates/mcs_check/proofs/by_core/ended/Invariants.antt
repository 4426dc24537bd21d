use Rattle.std.proofs.Common.{◌≡◌, ◌+◌, ℕ, Bool, List, [], replicate}
use Rattle.mcs_core.specs.Clock.{schedule}
use Rattle.mcs_verdict.specs.Findings.{past_of}
use Rattle.mcs_check.specs.stored.Rounds.{AreWatched}
use Rattle.mcs_check.specs.stored.Threads.{ended_of}
use Rattle.mcs_check.proofs.by_core.ended.Given as goal

abbrev pub invariant-loop-number : goal.invariant-loop-number
invariant-loop-number l =
    (allowed : List Bool) (from : ℕ) → AreWatched l.parts allowed from (replicate l.parts.cores (l.fn.horizon + 1)) l.watches
    → l.ended ≡ ended_of l.number (past_of [] (schedule l.parts l.fn.horizon))
