use Rattle.std.proofs.Common.{◌≡◌, ◌+◌, ◌++◌, subst}
use Rattle.std.specs.Arc.{arc_value}
use Rattle.mcs_stretch.proofs.Later.{takes_time}
use Rattle.mcs_ever_search.specs.Together.{Together, rows_at, rows_before}
use Rattle.mcs_ever_search.proofs.Turning.{rows-after}
use Rattle.mcs_ever_search.proofs.lockstep.Lockstep.turn.Goals as goal

pub returns-clause-schedule : goal.returns-clause-schedule
returns-clause-schedule c =
    let a = c.self.inside in
    let s = arc_value a.system in
    let P : Together → Type 0 = λ t. rows_before t.system (t.clock + 1) ≡ rows_before t.system t.clock ++ rows_at t.system t.clock in
    subst P c.self.view_is (rows-after s (takes_time s c.self.invariant.well_formed) a.clock)
