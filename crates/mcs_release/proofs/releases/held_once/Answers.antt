use Rattle.std.proofs.Common.{arith, subst}
use Rattle.mcs_release.specs.Release.{AreBelow, AreDistinct, ReleaseQueue}
use Rattle.mcs_release.proofs.Kept.{AreBelow-once, AreDistinct-once}
use Rattle.mcs_release.proofs.releases.held_once.Goals as goal

pub returns-clause-distinct : goal.returns-clause-distinct
returns-clause-distinct c =
    let Distinct : ReleaseQueue → Type 0 = λ value. AreDistinct value.queue in
    subst Distinct c.releases.view_is (
    AreDistinct-once _ (λ thread. grind (arith, c.releases.invariant.once thread))
    )

pub returns-clause-below : goal.returns-clause-below
returns-clause-below c =
    let Below : ReleaseQueue → Type 0 = λ value. AreBelow value.room value.queue in
    subst Below c.releases.view_is (AreBelow-once _ _ c.releases.invariant.once)
