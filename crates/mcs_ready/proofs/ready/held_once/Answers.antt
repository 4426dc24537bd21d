use Rattle.std.proofs.Common.{subst}
use Rattle.mcs_ready.specs.Ready.{AreBelow, AreDistinct, ReadyQueue}
use Rattle.mcs_ready.proofs.Kept.{AreBelow-kept, AreDistinct-kept}
use Rattle.mcs_ready.proofs.ready.held_once.Goals as goal

pub returns-clause-distinct : goal.returns-clause-distinct
returns-clause-distinct c =
    let Distinct : ReadyQueue → Type 0 = λ value. AreDistinct value.queue in
    subst Distinct c.ready.view_is (AreDistinct-kept _ _ _ c.ready.invariant)

pub returns-clause-below : goal.returns-clause-below
returns-clause-below c =
    let Below : ReadyQueue → Type 0 = λ value. AreBelow value.room value.queue in
    subst Below c.ready.view_is (AreBelow-kept _ _ _ c.ready.invariant)
