use Rattle.std.proofs.Common.{◌≡◌, drop, fold, min}
use Rattle.mcs_team.proofs.outflow.least.Given as goal

abbrev pub invariant-loop-moment : goal.invariant-loop-moment
invariant-loop-moment l = fold min l.least (drop l.moment-index l.moments) ≡ fold min l.fn.end l.moments
