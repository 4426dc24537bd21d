use Rattle.std.proofs.Common.{◌≡◌, drop}
use Rattle.mcs_system.specs.System.{delay_by_link}
use Rattle.mcs_ever_again.proofs.under_way.told.delay_by_link.Given as goal

-- no link before this one is theirs
abbrev pub invariant-loop-link : goal.invariant-loop-link
invariant-loop-link l =
    delay_by_link (drop l.link-index l.links) l.maker l.home l.delay ≡ delay_by_link l.links l.maker l.home l.delay
