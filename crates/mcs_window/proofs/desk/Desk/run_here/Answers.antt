use Rattle.std.proofs.Common.{◌≡◌, ◌<◌, ◌∙◌, get_or, set, refl, ap, sym, subst, arith}
use Rattle.std.specs.Prelude.{slice_index}
use Rattle.std.specs.Arc.{arc_value}
use Rattle.std.proofs.lemmas.List.{set-set, get_or_default}
use Rattle.mcs_window.specs.Desk.{lent_to, settled_at, taken_at, with_lost, turns_left}
use Rattle.mcs_window.specs.stored.Slots.{table_of, HasGoneAndSent, AreSameBut}
use Rattle.mcs_window.proofs.Going.{settled-went, went-seen}
use Rattle.mcs_window.proofs.Running.{at_core, may_go, in_clocks, in_boxes, gone_kept, gone_shows, gone_clock, gone_fewer, spent_kept, spent_shows, respent_are}
use Rattle.mcs_window.proofs.desk.Desk.run_here.Goals as goal

pub take_and_deliver-requires-clause-may : goal.take_and_deliver-requires-clause-may
take_and_deliver-requires-clause-may g c =
    let a = c.self.inside in
    let k = c.core.inside.0 in
    let at = at_core (table_of a) c.args.self.now k c.args.core c.args.past c.self.view_is c.core.view_is c.requires.may in
    rw (c.deref.ensures, c.deref_mut.ensures.value, ← c.core.view_is) (may_go a c.self.invariant k c.args.past at c.index_mut-slot.result.now c.index_mut-slot.ensures.value)

pub invariant_of-self : goal.invariant_of-self
invariant_of-self g c =
    let a = c.self.inside in
    let k = c.core.inside.0 in
    let run = c.take_and_deliver.new in
    let at = at_core (table_of a) c.args.self.now k c.args.core c.args.past c.self.view_is c.core.view_is c.requires.may in
    let same : AreSameBut k a.boxes.items run.boxes = rw (c.deref_mut.ensures.value, ← c.core.view_is) at c.in_default.ensures.err in
    spent_kept a c.self.invariant k c.args.past at _ _ _ _ (record { past = c.args.past; front = a.clocks }) c.spend.new.mail c.spend.new.told refl refl c.spend.ensures.mail c.spend.ensures.told
    (set-set a.slots.items k run.slot c.spend.new.slot ∙ ap (set a.slots.items k) c.spend.ensures.slot)
    (respent_are a.boxes run.boxes k c.spend.new.mail (in_boxes a c.self.invariant k c.args.past at) same)
    (set-set a.told.items k run.told c.spend.new.told)
    _ (get_or_default a.clocks k c.index-self-index.result 0 (in_clocks a c.self.invariant k c.args.past at))

pub returns-in_default-clause-err : goal.returns-in_default-clause-err
returns-in_default-clause-err g c =
    let a = c.self.inside in
    let k = c.core.inside.0 in
    let at = at_core (table_of a) c.args.self.now k c.args.core c.args.past c.self.view_is c.core.view_is c.requires.may in
    let ran = c.take_and_deliver.new.slot in
    let spent = c.spend.new.slot in
    spent_shows a c.self.invariant k c.args.past at (set (set a.slots.items k ran) k spent) (record { past = c.args.past; front = a.clocks }) (get_or a.clocks k c.index-self-index.result) refl refl
    (set-set a.slots.items k ran spent ∙ ap (set a.slots.items k) c.spend.ensures.slot)
    (get_or_default a.clocks k c.index-self-index.result 0 (in_clocks a c.self.invariant k c.args.past at))
    ∙ ap (λ t. taken_at (with_lost (lent_to t k c.args.past)) k) c.self.view_is ∙ ap (λ n. taken_at (with_lost (lent_to c.args.self.now n c.args.past)) n) c.core.view_is

pub invariant_of-self-2 : goal.invariant_of-self-2
invariant_of-self-2 g c =
    let a = c.self.inside in
    let k = c.core.inside.0 in
    let run = c.take_and_deliver.new in
    let to = c.in-Ok.to in
    let told = c.index_mut-told.result.now in
    let at = at_core (table_of a) c.args.self.now k c.args.core c.args.past c.self.view_is c.core.view_is c.requires.may in
    let went : HasGoneAndSent g.S.Sink.takes (arc_value a.system) k c.args.past a.clocks told a.boxes.items run.slot run.boxes run.told run.signals.items to =
    rw (c.deref.ensures, c.deref_mut.ensures.value, ← c.core.view_is) at c.in-Ok.ensures.ok in
    gone_kept a c.self.invariant k c.args.past at g.S.Sink.takes g.met.S.Collector.holds_more to run.slot run.boxes told run.told run.signals went c.index_mut-told.ensures.value

pub returns-clause-ok : goal.returns-clause-ok
returns-clause-ok g c =
    let a = c.self.inside in
    let k = c.core.inside.0 in
    let run = c.take_and_deliver.new in
    let to = c.in-Ok.to in
    let told = c.index_mut-told.result.now in
    let at = at_core (table_of a) c.args.self.now k c.args.core c.args.past c.self.view_is c.core.view_is c.requires.may in
    let went : HasGoneAndSent g.S.Sink.takes (arc_value a.system) k c.args.past a.clocks told a.boxes.items run.slot run.boxes run.told run.signals.items to =
    rw (c.deref.ensures, c.deref_mut.ensures.value, ← c.core.view_is) at c.in-Ok.ensures.ok in
    let clock : slice_index (set a.clocks k to) k ≡ to =
    gone_clock a c.self.invariant k c.args.past at g.S.Sink.takes g.met.S.Collector.holds_more to run.slot run.boxes told run.told run.signals went c.index_mut-told.ensures.value in
    gone_shows a c.self.invariant k c.args.past at g.S.Sink.takes g.met.S.Collector.holds_more to run.slot run.boxes told run.told run.signals went c.index_mut-told.ensures.value
    ∙ ap (λ t. settled_at t k to) c.self.view_is ∙ ap (λ n. settled_at c.args.self.now n to) c.core.view_is
    ∙ ap (settled_at c.args.self.now c.args.core) (sym clock ∙ ap (slice_index (set a.clocks k to)) c.core.view_is)

pub returns-clause-fewer : goal.returns-clause-fewer
returns-clause-fewer g c =
    let a = c.self.inside in
    let k = c.core.inside.0 in
    let run = c.take_and_deliver.new in
    let to = c.in-Ok.to in
    let told = c.index_mut-told.result.now in
    let at = at_core (table_of a) c.args.self.now k c.args.core c.args.past c.self.view_is c.core.view_is c.requires.may in
    let went : HasGoneAndSent g.S.Sink.takes (arc_value a.system) k c.args.past a.clocks told a.boxes.items run.slot run.boxes run.told run.signals.items to =
    rw (c.deref.ensures, c.deref_mut.ensures.value, ← c.core.view_is) at c.in-Ok.ensures.ok in
    let fewer = gone_fewer a c.self.invariant k c.args.past at g.S.Sink.takes g.met.S.Collector.holds_more to run.slot run.boxes told run.told run.signals went c.index_mut-told.ensures.value in
    let shows = gone_shows a c.self.invariant k c.args.past at g.S.Sink.takes g.met.S.Collector.holds_more to run.slot run.boxes told run.told run.signals went c.index_mut-told.ensures.value in
    subst (λ t. turns_left t < turns_left c.args.self.now) (sym shows) (subst (λ t. turns_left (settled_at (table_of a) k to) < turns_left t) c.self.view_is fewer)

pub returns-clause-went : goal.returns-clause-went
returns-clause-went g c =
    let a = c.self.inside in
    let k = c.core.inside.0 in
    let run = c.take_and_deliver.new in
    let to = c.in-Ok.to in
    let told = c.index_mut-told.result.now in
    let at = at_core (table_of a) c.args.self.now k c.args.core c.args.past c.self.view_is c.core.view_is c.requires.may in
    let went : HasGoneAndSent g.S.Sink.takes (arc_value a.system) k c.args.past a.clocks told a.boxes.items run.slot run.boxes run.told run.signals.items to =
    rw (c.deref.ensures, c.deref_mut.ensures.value, ← c.core.view_is) at c.in-Ok.ensures.ok in
    went-seen (table_of a) c.args.self.now _ c.self.view_is
    (settled-went (table_of a) _ k c.args.past to at (let few = c.self.invariant.few in let all = c.self.invariant.clocks_of in omega arith) went.gone.later went.gone.in_time
    (gone_shows a c.self.invariant k c.args.past at g.S.Sink.takes g.met.S.Collector.holds_more to run.slot run.boxes told run.told run.signals went c.index_mut-told.ensures.value))
