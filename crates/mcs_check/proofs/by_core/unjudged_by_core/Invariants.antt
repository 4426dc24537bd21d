use Rattle.std.proofs.Common.{◌≡◌, ◌+◌, ℕ, Bool, List, [], replicate}
use Rattle.std.specs.List.{filter_map, range_with_len}
use Rattle.mcs_core.specs.Clock.{schedule}
use Rattle.mcs_verdict.specs.Findings.{past_of}
use Rattle.mcs_check.specs.Judged.{unjudged}
use Rattle.mcs_check.specs.stored.Rounds.{AreWatched}
use Rattle.mcs_check.proofs.by_core.unjudged_by_core.Given as goal

abbrev pub invariant-loop-number : goal.invariant-loop-number
invariant-loop-number l =
    (allowed : List Bool) (from : ℕ) → AreWatched l.parts allowed from (replicate l.parts.cores (l.horizon + 1)) l.watches
    → l.all.items ≡ filter_map (unjudged l.parts (past_of [] (schedule l.parts l.horizon)) l.horizon) (range_with_len 0 l.number)
