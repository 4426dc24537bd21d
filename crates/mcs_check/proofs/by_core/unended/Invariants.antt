use Rattle.std.proofs.Common.{◌≡◌, ◌++◌, ◌+◌, ℕ, Bool, List, [], drop, replicate}
use Rattle.mcs_core.specs.Clock.{schedule}
use Rattle.mcs_verdict.specs.Findings.{found_at_end, past_of}
use Rattle.mcs_check.specs.stored.Rounds.{AreWatched}
use Rattle.mcs_check.proofs.by_core.unended.Given as goal

abbrev pub invariant-loop-number : goal.invariant-loop-number
invariant-loop-number l =
    (allowed : List Bool) (from : ℕ) → AreWatched l.parts allowed from (replicate l.parts.cores (l.horizon + 1)) l.watches
    → l.found.items ++ found_at_end l.parts (past_of [] (schedule l.parts l.horizon)) l.horizon l.number (drop l.number l.parts.threads)
    ≡ found_at_end l.parts (past_of [] (schedule l.parts l.horizon)) l.horizon 0 l.parts.threads
