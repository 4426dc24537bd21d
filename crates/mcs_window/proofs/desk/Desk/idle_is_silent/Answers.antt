use Rattle.std.proofs.Common.{ℕ, ◌<◌, subst}
use Rattle.std.specs.Arc.{arc_value}
use Rattle.mcs_stretch.specs.Idle.{OnlyCounts}
use Rattle.mcs_stretch.proofs.Idle.{idle-passes}
use Rattle.mcs_stretch.proofs.Later.{takes_time}
use Rattle.mcs_window.specs.Desk.{Table, AllAreHere, IsSkipped}
use Rattle.mcs_window.proofs.Skipping.{all-reached}
use Rattle.mcs_window.proofs.desk.Desk.idle_is_silent.Goals as goal

pub returns : goal.returns
returns g c =
    let a = c.self.inside in
    let kept = c.self.invariant in
    let P : Table → Type 0 = λ t. AllAreHere t → (after : Table) → IsSkipped t after → (k : ℕ) → k < t.system.cores → OnlyCounts t.system t.clocks after.clocks k in
    subst P c.self.view_is
    (λ here after skipped. idle-passes (arc_value a.system) (takes_time (arc_value a.system) kept.well_formed) a.clocks after.clocks skipped.moment
    (all-reached a kept here) skipped.until.idle skipped.clocks)
