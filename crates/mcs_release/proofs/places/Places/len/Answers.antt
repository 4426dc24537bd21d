use Rattle.std.proofs.Common.{arith, ap, length}
use Rattle.mcs_release.proofs.Stored.{count-stored}
use Rattle.mcs_release.proofs.places.Places.len.Goals as goal

pub returns : goal.returns
returns c = omega (arith, count-stored _ _ _ c.self.invariant, ap (λ places. length places) c.self.view_is)
