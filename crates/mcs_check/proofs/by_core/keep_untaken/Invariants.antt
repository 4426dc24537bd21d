use Rattle.std.proofs.Common.{◌≡◌, ◌++◌, ◌+◌, ℕ, Bool, List, [], drop, replicate}
use Rattle.mcs_core.specs.Clock.{schedule}
use Rattle.mcs_verdict.specs.Findings.{past_of, untaken_at_end}
use Rattle.mcs_check.specs.stored.Rounds.{AreWatched}
use Rattle.mcs_check.proofs.by_core.keep_untaken.Given as goal

abbrev pub invariant-loop-number : goal.invariant-loop-number
invariant-loop-number l =
    (allowed : List Bool) (from : ℕ) → AreWatched l.system allowed from (replicate l.system.cores (l.horizon + 1)) l.watches
    → l.found.items ++ untaken_at_end l.system (past_of [] (schedule l.system l.horizon)) l.horizon l.number (drop l.number l.system.notes)
    ≡ l.initial.found.items ++ untaken_at_end l.system (past_of [] (schedule l.system l.horizon)) l.horizon 0 l.system.notes
