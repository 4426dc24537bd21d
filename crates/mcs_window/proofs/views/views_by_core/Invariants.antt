use Rattle.std.specs.Prelude.{map}
use Rattle.mcs_window.specs.stored.Views.{AreBegun}
use Rattle.mcs_window.proofs.views.views_by_core.Given as goal

abbrev pub invariant-loop-core : goal.invariant-loop-core
invariant-loop-core g l = AreBegun l.system (map g.T.Stands.state l.cores) l.core-index l.queues.items
