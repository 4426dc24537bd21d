use Rattle.std.proofs.Common.{◌≡◌, ◌<◌, ◌≤◌, ◌+◌, length, set, ap, sym, ◌∙◌, subst, rules}
use Rattle.std.specs.Prelude.{slice_index}
use Rattle.std.specs.Arc.{arc_value}
use Rattle.mcs_mail.specs.Box.{Content}
use Rattle.mcs_stretch.specs.Stretch.{NothingArrivesBefore, StandsAt}
use Rattle.mcs_window.proofs.Advances.{expected}
use Rattle.mcs_window.proofs.Keeping.{spent_kept, advanced_kept}
use Rattle.mcs_window.proofs.cores.Cores.advance.Goals as goal

pub run-requires-clause-expected : goal.run-requires-clause-expected
run-requires-clause-expected c =
    let a = c.self.inside in
    let k = c.core.inside.0 in
    let h : k < (arc_value a.system).cores = search rules in
    let here = (c.self.invariant.whole c.if-self.false).here k c.index_mut-state.result.now c.index_mut-mail.result.now h in
    rw c.deref.ensures
    (expected (arc_value a.system) c.self.invariant.well_formed k (slice_index a.clocks.items k) a.clocks.items c.index_mut-state.result.now c.index_mut-mail.result.now.mails
    (subst (StandsAt (arc_value a.system) k (slice_index a.clocks.items k)) (sym c.index_mut-state.ensures.value) here.state_is)
    (ap (λ (box : Content). box.mails) c.index_mut-mail.ensures.value ∙ here.box_is))

pub invariant_of-self-in_err-keep_rows : goal.invariant_of-self-in_err-keep_rows
invariant_of-self-in_err-keep_rows c =
    let a = c.self.inside in
    let k = c.core.inside.0 in
    let h : k < (arc_value a.system).cores = search rules in
    let many : length c.deliver.new.boxes ≡ length (set a.boxes.items k c.run.new.mail) = c.in_ok-deliver.ensures.delivered.many ∙ ap length c.deref_mut.ensures.value in
    spent_kept a c.self.invariant k c.run.new.self c.run.new.mail c.deliver.new.boxes c.index_mut.result.now c.keep_rows.new.kept c.run.new.signals
    h many c.index_mut.ensures.value c.in_err-keep_rows.ensures.refused

pub invariant_of-self-2 : goal.invariant_of-self-2
invariant_of-self-2 c =
    let a = c.self.inside in
    let k = c.core.inside.0 in
    let h : k < (arc_value a.system).cores = search rules in
    let l : slice_index a.clocks.items k ≤ c.args.to = search rules in
    let in_time : c.args.to ≤ a.horizon + 1 = search rules in
    let reached : NothingArrivesBefore (arc_value a.system) k c.args.to a.clocks.items = search rules in
    advanced_kept a c.self.invariant k c.args.to c.index_mut-state.result.now c.run.new.self c.index_mut-mail.result.now c.run.new.mail
    c.if-self.false h l reached c.index_mut-state.ensures.value c.index_mut-mail.ensures.value
    c.deliver.new.boxes c.index_mut.result.now c.keep_rows.new.kept c.run.new.rows c.run.new.signals c.clear.new.self in_time
    (record {
      state_is = rw c.deref.ensures at c.in_ok-run.ensures.state;
      fits = rw c.deref.ensures at c.in_ok-run.ensures.fits;
      rows_are = rw (c.deref.ensures, c.new-rows.ensures.items) at c.in_ok-run.ensures.rows;
      signals_are = rw c.deref.ensures at c.in_ok-run.ensures.signals;
      box_is = rw c.deref.ensures at c.in_ok-run.ensures.mail;
    })
    (rw (c.deref-2.ensures, c.deref-3.ensures.value, c.deref_mut.ensures.value) at c.in_ok-deliver.ensures.delivered)
    c.index_mut.ensures.value c.in_ok-keep_rows.ensures.kept c.clear.ensures.items
