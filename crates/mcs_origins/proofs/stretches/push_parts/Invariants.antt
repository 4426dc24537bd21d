use Rattle.std.proofs.Common.{◌≡◌, ◌++◌}
use Rattle.mcs_origins.specs.Sets.{without}
use Rattle.mcs_origins.specs.stored.Stretches.{all_of, flat, run}
use Rattle.mcs_origins.proofs.stretches.push_parts.Given as goal

-- what is left to do, and then what was done
abbrev pub invariant-loop-number : goal.invariant-loop-number
invariant-loop-number l =
    without l.answered (run l.stretch.last l.stretch.step l.number l.stretch.places) ++ flat l.all.items
    ≡ without l.answered (all_of l.stretch) ++ flat l.fn.all.items
