use Rattle.std.proofs.Common.{◌≡◌, ◌<◌, ◌≤◌, ◌∙◌, subst, arith}
use Rattle.std.specs.Prelude.{slice_index}
use Rattle.std.specs.Arc.{arc_value}
use Rattle.mcs_ticks.specs.Given.{Given}
use Rattle.mcs_core.specs.State.{made_by}
use Rattle.mcs_stretch.specs.Stretch.{StandsAt, NothingArrivesBefore, IsAfter}
use Rattle.mcs_window.specs.stored.Slots.{StandsIn}
use Rattle.mcs_window.proofs.Advances.{expected, ran_here, state_here}
use Rattle.mcs_window.proofs.turns.Turns.take.Goals as goal

pub run_some_to-requires-clause-expected : goal.run_some_to-requires-clause-expected
run_some_to-requires-clause-expected g c =
    let s = c.args.self.now.system.now in
    let k = c.args.self.now.core in
    let t = slice_index c.args.self.now.front.now k in
    let may = c.requires.may in
    let stands : (arc_value c.in-Here.spare ≡ s) × StandsAt s k t c.in-Here.state.value = subst (StandsIn s k t) c.in-Here.is may.stands in
    rw c.deref_mut.ensures.value (expected s c.requires.well_formed k t c.args.self.now.front.now c.in-Here.state.value c.args.mail.now.mails stands.1 may.box_is)

pub returns-in-Here : goal.returns-in-Here
returns-in-Here g c =
    let s = c.args.self.now.system.now in
    let k = c.args.self.now.core in
    let front = c.args.self.now.front.now in
    let t = slice_index front k in
    let may = c.requires.may in
    let state = c.in-Here.state.value in
    let to = c.run_some_to.new.self.clock in
    let made = made_by s state to c.args.mail.now.mails in
    let run = rw c.deref_mut.ensures.value at c.in-Ok.ensures in
    let stands : (arc_value c.in-Here.spare ≡ s) × StandsAt s k t state = subst (StandsIn s k t) c.in-Here.is may.stands in
    let clock = stands.1.clock_is in
    let ahead = may.ahead in
    let most = run.reaches.0 in
    let later : t < to = (let moved = run.reaches.1 (omega arith) in omega arith) in
    let in_time : to ≤ c.args.self.now.past = omega arith in
    let reached : NothingArrivesBefore s k to front = λ b m x l k i e. (let reach = may.reached b m x l k i e in omega arith) in
    let after : IsAfter s k t to front made = ran_here s c.requires.well_formed k t to front state c.args.mail.now.mails stands.1 may.box_is may.known (omega arith) reached in
    rw (c.clock.ensures, c.deref.ensures)
    (record {
      later = later;
      in_time = in_time;
      stands = (stands.0, state_here s c.requires.well_formed k t to front state c.run_some_to.new.self made stands.1 (omega arith) run.fits run.state after);
      box_is = run.mail ∙ after.mail_is;
      told = subst (λ xs. Given g.S.Sink.takes c.args.told.now xs c.run_some_to.new.sink) after.rows_are run.rows;
      signals_are = (rw c.clear.ensures.items at run.signals) ∙ after.out_is;
    })
