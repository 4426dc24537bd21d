use Rattle.std.proofs.Common.{◌≡◌, ◌++◌, take}
use Rattle.mcs_check.specs.stored.OwnRows.{until}
use Rattle.mcs_check.proofs.core_watch.CoreWatch.tell.Given as goal

abbrev pub invariant-loop-found : goal.invariant-loop-found
invariant-loop-found l = l.told.items ≡ l.initial.told.items ++ until l.to (take l.found-index l.found-items)
