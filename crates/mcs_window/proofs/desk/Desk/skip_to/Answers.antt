use Rattle.std.proofs.Common.{arith, ◌∙◌, ◌≤◌, ◌<◌, ◌+◌, ℕ, ap, sym, subst}
use Rattle.std.specs.Arc.{arc_value}
use Rattle.mcs_window.specs.Desk.{Table, AllAreHere, WentByScripts}
use Rattle.mcs_stretch.specs.Idle.{AreIdle, AreReached, OnlyCounts}
use Rattle.mcs_window.specs.stored.Slots.{HaveSkipped, table_of}
use Rattle.mcs_stretch.proofs.Later.{takes_time}
use Rattle.mcs_window.proofs.Going.{skipped-went}
use Rattle.mcs_window.proofs.Skipping.{all-stand, all-reached, counts, skipped_desk, skipped_shows}
use Rattle.mcs_window.proofs.desk.Desk.skip_to.Goals as goal

pub skip_slots-requires-clause-stand : goal.skip_slots-requires-clause-stand
skip_slots-requires-clause-stand g c =
    rw (c.deref.ensures, c.deref_mut.ensures.value) (all-stand c.self.inside c.self.invariant (subst AllAreHere (sym c.self.view_is) c.requires.here))

pub skip_slots-requires-clause-reached : goal.skip_slots-requires-clause-reached
skip_slots-requires-clause-reached g c =
    subst (λ system. AreReached system c.self.inside.clocks) (sym c.deref.ensures) (all-reached c.self.inside c.self.invariant (subst AllAreHere (sym c.self.view_is) c.requires.here))

pub skip_slots-requires-clause-idle : goal.skip_slots-requires-clause-idle
skip_slots-requires-clause-idle g c =
    let P : Table → Type 0 = λ t. AreIdle t.system t.clocks c.args.moment in
    subst (λ system. AreIdle system c.self.inside.clocks c.args.moment) (sym c.deref.ensures) (subst P (sym c.self.view_is) c.requires.idle)

pub invariant_of-self : goal.invariant_of-self
invariant_of-self g c =
    let P : Table → Type 0 = λ t. AreIdle t.system t.clocks c.args.moment in
    let Q : Table → Type 0 = λ t. c.args.moment ≤ t.horizon + 1 in
    skipped_desk c.self.inside c.self.invariant (subst AllAreHere (sym c.self.view_is) c.requires.here) c.args.moment c.skip_slots.new.clocks c.skip_slots.new.slots
    (subst Q (sym c.self.view_is) c.requires.in_time) (subst P (sym c.self.view_is) c.requires.idle)
    (rw c.deref.ensures at c.skip_slots.ensures)

pub returns-clause-rest : goal.returns-clause-rest
returns-clause-rest g c =
    let P : Table → Type 0 = λ t. AreIdle t.system t.clocks c.args.moment in
    let Q : Table → Type 0 = λ t. c.args.moment ≤ t.horizon + 1 in
    let skipped : HaveSkipped (arc_value c.self.inside.system) c.self.inside.clocks c.args.moment (arc_value c.self.inside.system).cores c.skip_slots.new.clocks c.skip_slots.new.slots =
    rw c.deref.ensures at c.skip_slots.ensures in
    skipped_shows c.self.inside c.self.invariant (subst AllAreHere (sym c.self.view_is) c.requires.here) c.args.moment c.skip_slots.new.clocks c.skip_slots.new.slots
    (subst Q (sym c.self.view_is) c.requires.in_time) (subst P (sym c.self.view_is) c.requires.idle) skipped
    ∙ ap (λ (t : Table). record t { clocks = c.skip_slots.new.clocks }) c.self.view_is

pub returns-clause-count : goal.returns-clause-count
returns-clause-count g c =
    let P : Table → Type 0 = λ t. AreIdle t.system t.clocks c.args.moment in
    let Q : Table → Type 0 = λ t. c.args.moment ≤ t.horizon + 1 in
    let R : Table → Type 0 = λ t. (k : ℕ) → k < t.system.cores → OnlyCounts t.system t.clocks c.skip_slots.new.clocks k in
    let skipped : HaveSkipped (arc_value c.self.inside.system) c.self.inside.clocks c.args.moment (arc_value c.self.inside.system).cores c.skip_slots.new.clocks c.skip_slots.new.slots =
    rw c.deref.ensures at c.skip_slots.ensures in
    subst R c.self.view_is
    (counts c.self.inside c.self.invariant (subst AllAreHere (sym c.self.view_is) c.requires.here) c.args.moment c.skip_slots.new.clocks c.skip_slots.new.slots
    (subst Q (sym c.self.view_is) c.requires.in_time) (subst P (sym c.self.view_is) c.requires.idle) skipped)

pub returns-clause-went : goal.returns-clause-went
returns-clause-went g c =
    let a = c.self.inside in
    let P : Table → Type 0 = λ t. AreIdle t.system t.clocks c.args.moment in
    let Q : Table → Type 0 = λ t. c.args.moment ≤ t.horizon + 1 in
    let skipped : HaveSkipped (arc_value a.system) a.clocks c.args.moment (arc_value a.system).cores c.skip_slots.new.clocks c.skip_slots.new.slots =
    rw c.deref.ensures at c.skip_slots.ensures in
    let went : WentByScripts (table_of a) (record (table_of a) { clocks = c.skip_slots.new.clocks }) =
    skipped-went (table_of a) c.args.moment c.skip_slots.new.clocks (takes_time (arc_value a.system) c.self.invariant.well_formed)
    (let few = c.self.invariant.few in let all = c.self.invariant.clocks_of in omega arith) (subst Q (sym c.self.view_is) c.requires.in_time) skipped.clocks_are in
    subst (λ (t : Table). WentByScripts c.args.self.now t)
    (sym (skipped_shows a c.self.invariant (subst AllAreHere (sym c.self.view_is) c.requires.here) c.args.moment c.skip_slots.new.clocks c.skip_slots.new.slots
    (subst Q (sym c.self.view_is) c.requires.in_time) (subst P (sym c.self.view_is) c.requires.idle) skipped))
    (subst (λ (t : Table). WentByScripts t (record (table_of a) { clocks = c.skip_slots.new.clocks })) c.self.view_is went)
