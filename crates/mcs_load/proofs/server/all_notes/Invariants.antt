use Rattle.std.proofs.Common.{◌≡◌, ◌++◌, map}
use Rattle.mcs_load.specs.Walk.{free_server}
use Rattle.mcs_load.proofs.server.all_notes.Given as goal

abbrev pub invariant-loop-server : goal.invariant-loop-server
invariant-loop-server l = l.notes.items ≡ l.initial.notes.items ++ map free_server l.yielded
