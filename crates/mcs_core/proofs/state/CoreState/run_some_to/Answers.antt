use Rattle.std.proofs.Common.{◌≡◌, ◌≤◌, refl, sym, ap, subst, ◌∙◌, append-nil, arith, rules, false, ◌+◌, ◌-◌, ◌<◌, ◌++◌}
use Rattle.mcs_ticks.specs.Given.{Given}
use Rattle.mcs_core.specs.Run.{Ran}
use Rattle.mcs_core.specs.State.{State}
use Rattle.mcs_core.proofs.Runs.{none-made, none-yet, state-at-first, state-through, given-through, given-rest, signals-through, box-through, expected-after}
use Rattle.mcs_core.proofs.state.CoreState.run_some_to.Goals as goal

pub turns-init : goal.turns-init
turns-init g c =
    let going : c.args.self.now.failed ≡ false = ap (λ (s : State). s.failed) (sym c.self.view_is) ∙ c.if-self.false in
    let none = none-made c.args.system.now c.args.self.now c.args.mail.now.mails in
    let first : g.S.Measured.size c.args.sink.now < g.S.Measured.size c.args.sink.now + 1 = omega arith in
    record {
      going = going;
      from = omega arith;
      past = omega arith;
      fits = c.requires.fits;
      ends = λ l. c.ends-ends.ensures;
      expected = c.requires.expected;
      state = state-at-first c.args.system.now c.args.self.now c.args.mail.now.mails c.requires.fits going;
      fewer = omega arith;
      short = (c.args.sink.now, subst (λ (made : Ran). Given g.S.Sink.takes c.args.sink.now made.rows c.args.sink.now) (sym (none-yet c.args.system.now c.args.self.now c.args.mail.now.mails)) refl, omega arith);
      rows = subst (λ (made : Ran). Given g.S.Sink.takes c.args.sink.now made.rows c.args.sink.now) (sym none) refl;
      signals = sym (append-nil c.args.signals.now.items) ∙ ap (λ (made : Ran). c.args.signals.now.items ++ made.mails) (sym none);
      mail = ap (λ (made : Ran). made.box) (sym none);
    }

pub turns-preserved : goal.turns-preserved
turns-preserved g c =
    let i = c.turns.invariant in
    let step = c.in_ok-ends.ensures in
    let later : c.turns.self.clock < c.advance.new.self.clock = step.later in
    let from : c.turns.self.clock ≤ c.advance.new.self.clock = step.kept.1 in
    let past : c.advance.new.self.clock ≤ c.args.to = step.kept.2 in
    let few : g.S.Measured.size c.advance.new.sink < c.args.most = search rules in
    record {
      going = step.going;
      from = omega arith;
      past = omega arith;
      fits = step.fits;
      ends = step.ends;
      expected = expected-after c.args.system.now c.turns.self c.advance.new.self c.advance.new.self.clock c.turns.mail.mails c.advance.new.mail.mails step.state step.mail i.expected;
      state = step.state ∙ state-through c.args.system.now c.turns.self.clock c.advance.new.self.clock c.args.self.now c.turns.self c.args.mail.now.mails c.turns.mail.mails i.from step.kept.1 i.state i.mail;
      fewer = omega (arith, few);
      short = (c.turns.sink, given-rest c.args.system.now c.turns.self.clock (c.advance.new.self.clock - 1) c.args.self.now c.turns.self c.args.mail.now.mails c.turns.mail.mails i.from (omega arith) i.state i.mail g.S.Sink.takes c.args.sink.now c.turns.sink i.rows step.last, i.fewer);
      rows = given-through c.args.system.now c.turns.self.clock c.advance.new.self.clock c.args.self.now c.turns.self c.args.mail.now.mails c.turns.mail.mails i.from step.kept.1 i.state i.mail g.S.Sink.takes c.args.sink.now c.turns.sink c.advance.new.sink i.rows step.rows;
      signals = signals-through c.args.system.now c.turns.self.clock c.advance.new.self.clock c.args.self.now c.turns.self c.args.mail.now.mails c.turns.mail.mails i.from step.kept.1 i.state i.mail
          c.args.signals.now.items c.turns.signals.items c.advance.new.signals.items i.signals step.signals;
      mail = step.mail ∙ box-through c.args.system.now c.turns.self.clock c.advance.new.self.clock c.args.self.now c.turns.self c.args.mail.now.mails c.turns.mail.mails i.from step.kept.1 i.state i.mail;
    }

pub returns-then-size-most-clause-state : goal.returns-then-size-most-clause-state
returns-then-size-most-clause-state g c =
    let i = c.turns.invariant in
    let step = c.in_ok-ends.ensures in
    step.state ∙ state-through c.args.system.now c.turns.self.clock c.advance.new.self.clock c.args.self.now c.turns.self c.args.mail.now.mails c.turns.mail.mails i.from step.kept.1 i.state i.mail

pub returns-then-size-most-clause-rows : goal.returns-then-size-most-clause-rows
returns-then-size-most-clause-rows g c =
    let i = c.turns.invariant in
    let step = c.in_ok-ends.ensures in
    given-through c.args.system.now c.turns.self.clock c.advance.new.self.clock c.args.self.now c.turns.self c.args.mail.now.mails c.turns.mail.mails i.from step.kept.1 i.state i.mail g.S.Sink.takes c.args.sink.now c.turns.sink c.advance.new.sink i.rows step.rows

pub returns-then-size-most-clause-signals : goal.returns-then-size-most-clause-signals
returns-then-size-most-clause-signals g c =
    let i = c.turns.invariant in
    let step = c.in_ok-ends.ensures in
    signals-through c.args.system.now c.turns.self.clock c.advance.new.self.clock c.args.self.now c.turns.self c.args.mail.now.mails c.turns.mail.mails i.from step.kept.1 i.state i.mail
    c.args.signals.now.items c.turns.signals.items c.advance.new.signals.items i.signals step.signals

pub returns-then-size-most-clause-mail : goal.returns-then-size-most-clause-mail
returns-then-size-most-clause-mail g c =
    let i = c.turns.invariant in
    let step = c.in_ok-ends.ensures in
    step.mail ∙ box-through c.args.system.now c.turns.self.clock c.advance.new.self.clock c.args.self.now c.turns.self c.args.mail.now.mails c.turns.mail.mails i.from step.kept.1 i.state i.mail

pub returns-then-size-most-clause-no_further : goal.returns-then-size-most-clause-no_further
returns-then-size-most-clause-no_further g c =
    let i = c.turns.invariant in
    let step = c.in_ok-ends.ensures in
    let later : c.turns.self.clock < c.advance.new.self.clock = step.later in
    (c.turns.sink, given-rest c.args.system.now c.turns.self.clock (c.advance.new.self.clock - 1) c.args.self.now c.turns.self c.args.mail.now.mails c.turns.mail.mails i.from (omega arith) i.state i.mail g.S.Sink.takes c.args.sink.now c.turns.sink i.rows step.last, i.fewer)
