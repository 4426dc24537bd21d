use Rattle.std.proofs.Common.{◌≡◌, ◌+◌, ◌≤◌, subst}
use Rattle.std.specs.Arc.{arc_value}
use Rattle.mcs_window.specs.Idle.{IsIdleUntil}
use Rattle.mcs_ever_search.specs.Together.{Together, clocks_at, rows_before}
use Rattle.mcs_ever_search.specs.Compared.{Compared}
use Rattle.mcs_ever_search.proofs.Keeping.{lockstep-is, skipped-kept}
use Rattle.mcs_ever_search.proofs.search.Search.skip.Goals as goal

pub invariant_of-self-2 : goal.invariant_of-self-2
invariant_of-self-2 c =
    let a = c.self.inside in
    skipped-kept a c.self.invariant c.if-self.false (c.rows_tell_turns.ensures (arc_value a.system) c.self.invariant.well_formed) c.in_ok-moment.moment
    c.skip.new.self c.go_to.new.self c.in_ok-moment.ensures.later c.in_ok-moment.ensures.moment.in_time c.in_ok-moment.ensures.no_rows
    c.in_ok-moment.ensures.together c.go_to.ensures

pub returns-clause-moment : goal.returns-clause-moment
returns-clause-moment c =
    let m = c.in_ok-moment.moment in
    let P : Together → Type 0 = λ t. IsIdleUntil t.system (clocks_at t.system t.clock) (t.horizon + 1) m in
    let Q : Compared → Type 0 = λ t. IsIdleUntil t.system (clocks_at t.system t.clock) (t.horizon + 1) m in
    subst Q c.self.view_is (subst P (lockstep-is c.self.inside c.self.invariant c.if-self.false) c.in_ok-moment.ensures.moment)

pub returns-clause-later : goal.returns-clause-later
returns-clause-later c =
    let P : Together → Type 0 = λ t. t.clock ≤ c.in_ok-moment.moment in
    let Q : Compared → Type 0 = λ t. t.clock ≤ c.in_ok-moment.moment in
    subst Q c.self.view_is (subst P (lockstep-is c.self.inside c.self.invariant c.if-self.false) c.in_ok-moment.ensures.later)

pub returns-clause-no_rows : goal.returns-clause-no_rows
returns-clause-no_rows c =
    let m = c.in_ok-moment.moment in
    let P : Together → Type 0 = λ t. rows_before t.system m ≡ rows_before t.system t.clock in
    let Q : Compared → Type 0 = λ t. rows_before t.system m ≡ rows_before t.system t.clock in
    subst Q c.self.view_is (subst P (lockstep-is c.self.inside c.self.invariant c.if-self.false) c.in_ok-moment.ensures.no_rows)
