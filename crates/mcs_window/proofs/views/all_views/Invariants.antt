use Rattle.std.specs.Prelude.{map}
use Rattle.mcs_window.specs.stored.Views.{AreDealt}
use Rattle.mcs_window.proofs.views.all_views.Given as goal

abbrev pub invariant-loop-context : goal.invariant-loop-context
invariant-loop-context g l = AreDealt l.system (map g.T.Stands.state l.cores) l.context-index l.queues.items l.views.items
