use Rattle.std.proofs.Common.{◌++◌, ◌∙◌, subst, refl}
use Rattle.std.specs.Arc.{arc_value}
use Rattle.mcs_ticks.proofs.Givens.{held_more}
use Rattle.mcs_core.specs.State.{made_by}
use Rattle.mcs_stretch.specs.Stretch.{IsAfter, rows_between}
use Rattle.mcs_window.specs.Pieces.{Work}
use Rattle.mcs_window.proofs.Advances.{expected, ran_here, state_here}
use Rattle.mcs_window.proofs.piece.Piece.run_to.Goals as goal

pub run_to-requires-clause-expected : goal.run_to-requires-clause-expected
run_to-requires-clause-expected g c =
    let p = c.self.inside in
    let well = rw c.deref.ensures at c.parts-parts.ensures.well_formed in
    let work = c.self.invariant in
    rw (c.deref-2.ensures, c.deref_mut.ensures.value) (expected (arc_value p.system) well p.core p.first p.front p.state.value p.mail.mails work.state_is work.mail_is)

pub invariant_of-result : goal.invariant_of-result
invariant_of-result g c =
    let p = c.self.inside in
    let s = arc_value p.system in
    let well = rw c.deref.ensures at c.parts-parts.ensures.well_formed in
    let work = c.self.invariant in
    let stretch = work.stretch in
    let after : IsAfter s p.core p.first p.past p.front (made_by s p.state.value p.past p.mail.mails) =
    ran_here s well p.core p.first p.past p.front p.state.value p.mail.mails work.state_is work.mail_is stretch.known stretch.in_order stretch.reached in
    record {
      is = record {
        stretch = stretch;
        state_is = state_here s well p.core p.first p.past p.front p.state.value c.run_to.new.self (made_by s p.state.value p.past p.mail.mails) work.state_is stretch.in_order (rw c.deref-2.ensures at c.in-Ok-run_to.ensures.fits)
            (rw (c.deref-2.ensures, c.deref_mut.ensures.value) at c.in-Ok-run_to.ensures.state) after;
        rows_are = refl;
        out_is = (rw (c.deref-2.ensures, c.in-Ok.ensures.items, c.deref_mut.ensures.value) at c.in-Ok-run_to.ensures.signals) ∙ after.out_is;
        mail_is = (rw (c.deref-2.ensures, c.deref_mut.ensures.value) at c.in-Ok-run_to.ensures.mail) ∙ after.mail_is;
      };
      told = tt;
    }

pub returns-clause-told : goal.returns-clause-told
returns-clause-told g c held holds =
    let p = c.self.inside in
    let s = arc_value p.system in
    let well = rw c.deref.ensures at c.parts-parts.ensures.well_formed in
    let work = c.self.invariant in
    let stretch = work.stretch in
    let after : IsAfter s p.core p.first p.past p.front (made_by s p.state.value p.past p.mail.mails) =
    ran_here s well p.core p.first p.past p.front p.state.value p.mail.mails work.state_is work.mail_is stretch.known stretch.in_order stretch.reached in
    subst (λ (w : Work). g.T.Collector.holds c.run_to.new.sink (held ++ rows_between w.system w.core w.first w.past)) c.self.view_is
    (subst (λ rows. g.T.Collector.holds c.run_to.new.sink (held ++ rows)) after.rows_are
    (held_more g.T.Sink.takes g.T.Collector.holds g.met.T.Collector.holds_more c.args.told.now c.run_to.new.sink held _ holds (rw (c.deref-2.ensures, c.deref_mut.ensures.value) at c.in-Ok-run_to.ensures.rows)))
