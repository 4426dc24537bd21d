use Rattle.std.proofs.Common.{◌≡◌, ◌≤◌, ◌+◌, subst}
use Rattle.mcs_window.specs.Idle.{IsIdleUntil}
use Rattle.mcs_ever_search.specs.Together.{Together, clocks_at, rows_before}
use Rattle.mcs_ever_search.proofs.Standing.{idle-until, no-rows, none-turned, not-back, passed-kept, still-going}
use Rattle.mcs_ever_search.proofs.lockstep.Lockstep.skip.Goals as goal

pub skip-moment-requires-clause-going : goal.skip-moment-requires-clause-going
skip-moment-requires-clause-going c = still-going c.self.inside c.self.invariant c.if-self.false

pub skip-moment-requires-clause-first : goal.skip-moment-requires-clause-first
skip-moment-requires-clause-first c = none-turned c.self.inside c.self.invariant c.if-self.false

pub invariant_of-self : goal.invariant_of-self
invariant_of-self c =
    passed-kept c.self.inside c.self.invariant c.if-self.false c.skip-moment.result c.skip-moment.new.self c.skip-moment.ensures.place
    (idle-until c.self.inside c.self.invariant c.if-self.false c.skip-moment.result c.skip-moment.ensures.moment).in_time

pub returns-clause-moment : goal.returns-clause-moment
returns-clause-moment c =
    let P : Together → Type 0 = λ t. IsIdleUntil t.system (clocks_at t.system t.clock) (t.horizon + 1) c.skip-moment.result in
    subst P c.self.view_is (idle-until c.self.inside c.self.invariant c.if-self.false c.skip-moment.result c.skip-moment.ensures.moment)

pub returns-clause-later : goal.returns-clause-later
returns-clause-later c =
    let P : Together → Type 0 = λ t. t.clock ≤ c.skip-moment.result in
    subst P c.self.view_is (not-back c.self.inside c.self.invariant c.if-self.false c.skip-moment.result c.skip-moment.ensures.later)

pub returns-clause-no_rows : goal.returns-clause-no_rows
returns-clause-no_rows c =
    let P : Together → Type 0 = λ t. rows_before t.system c.skip-moment.result ≡ rows_before t.system t.clock in
    subst P c.self.view_is (no-rows c.self.inside c.self.invariant c.if-self.false c.skip-moment.result c.skip-moment.new.self c.skip-moment.ensures.place c.skip-moment.ensures.no_rows)
