use Rattle.std.proofs.Common.{◌∙◌, ap}
use Rattle.mcs_release.specs.Release.{ReleaseQueue, earliest, when_left}
use Rattle.mcs_release.proofs.Kept.{IsKept-left, left-others, same_value}
use Rattle.mcs_release.proofs.releases.Releases.take_first.Goals as goal

pub invariant_of-self-2 : goal.invariant_of-self-2
invariant_of-self-2 c =
    rw (c.of-self-inside.ensures, c.first_date.ensures, c.in_default.is) (
    IsKept-left _ _ _ _ _ _ c.self.invariant _ _ c.take_first-thread.ensures c.in_default.is
    )

pub returns-clause-rest : goal.returns-clause-rest
returns-clause-rest c =
    rw c.in_default.is (
    same_value _ _ _ _ (
    left-others _ _ _ _ _ _ c.self.invariant _ _ c.take_first-thread.ensures c.in_default.is
    ∙ ap (λ (v : ReleaseQueue). when_left (earliest v.queue) v.queue) c.self.view_is
    ) (ap (λ (v : ReleaseQueue). v.room) c.self.view_is)
    )
