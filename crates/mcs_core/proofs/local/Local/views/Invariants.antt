use Rattle.std.proofs.Common.{◌≡◌, take}
use Rattle.mcs_core.specs.Views.{views_from}
use Rattle.mcs_core.proofs.local.Local.views.Given as goal

abbrev pub invariant-loop-k : goal.invariant-loop-k
invariant-loop-k l = l.views.items ≡ views_from l.system 0 l.self.running (take l.k l.self.contexts)
