use Rattle.std.proofs.Common.{◌≡◌, refl, ◌-◌, ◌++◌, ◌<◌, [], List, sym, subst, ap, ◌∙◌, append-nil, arith}
use Rattle.mcs_mail.specs.declared.mail.Mail.{Mail}
use Rattle.mcs_ticks.specs.Given.{Given}
use Rattle.mcs_ticks.specs.Queue.{by_priority}
use Rattle.mcs_core.specs.Run.{Ran}
use Rattle.mcs_core.specs.State.{State, skipped}
use Rattle.mcs_core.proofs.Skips.{quiet-alone, quiet-whole, quiet-first, busy-before, busy-later, expected-on, no-rows, stretch-state, stretch-last, stretch-told, stretch-given, quiet-made, quiet-state}
use Rattle.mcs_core.proofs.state.CoreState.advance.Goals as goal

pub skip-requires-clause-quiet : goal.skip-requires-clause-quiet
skip-requires-clause-quiet g c =
    quiet-alone by_priority c.args.system.now c.args.self.now.number c.args.self.now.clock (c.args.to - c.args.self.now.clock) c.args.self.now.core c.args.mail.now.mails (quiet-whole c.args.system.now c.args.self.now c.args.mail.now.mails c.args.to c.soonest.result c.soonest.ensures (sym c.before-2.ensures ∙ c.in_default.is) (omega arith))

pub turn_at-requires-clause-later : goal.turn_at-requires-clause-later
turn_at-requires-clause-later g c = busy-later c.args.system.now c.args.self.now c.args.mail.now.mails c.args.to c.soonest.result c.soonest.ensures c.in-Some.moment (sym c.before-2.ensures ∙ c.in-Some.is)

pub turn_at-requires-clause-in_time : goal.turn_at-requires-clause-in_time
turn_at-requires-clause-in_time g c = let soon : c.in-Some.moment < c.args.to = busy-before c.args.system.now c.args.self.now c.args.mail.now.mails c.args.to c.soonest.result c.soonest.ensures c.in-Some.moment (sym c.before-2.ensures ∙ c.in-Some.is) in omega arith

pub turn_at-requires-clause-quiet : goal.turn_at-requires-clause-quiet
turn_at-requires-clause-quiet g c =
    quiet-alone by_priority c.args.system.now c.args.self.now.number c.args.self.now.clock (c.in-Some.moment - c.args.self.now.clock) c.args.self.now.core c.args.mail.now.mails (quiet-first c.args.system.now c.args.self.now c.args.mail.now.mails c.args.to c.soonest.result c.soonest.ensures c.in-Some.moment (sym c.before-2.ensures ∙ c.in-Some.is))

pub turn_at-requires-clause-expected : goal.turn_at-requires-clause-expected
turn_at-requires-clause-expected g c = expected-on c.args.system.now c.args.self.now c.args.mail.now.mails c.in-Some.moment (busy-later c.args.system.now c.args.self.now c.args.mail.now.mails c.args.to c.soonest.result c.soonest.ensures c.in-Some.moment (sym c.before-2.ensures ∙ c.in-Some.is)) (quiet-first c.args.system.now c.args.self.now c.args.mail.now.mails c.args.to c.soonest.result c.soonest.ensures c.in-Some.moment (sym c.before-2.ensures ∙ c.in-Some.is)) c.requires.expected

pub returns-clause-state : goal.returns-clause-state
returns-clause-state g c =
    stretch-state c.args.system.now c.args.self.now c.args.mail.now.mails c.in-Some.moment (busy-later c.args.system.now c.args.self.now c.args.mail.now.mails c.args.to c.soonest.result c.soonest.ensures c.in-Some.moment (sym c.before-2.ensures ∙ c.in-Some.is)) (quiet-first c.args.system.now c.args.self.now c.args.mail.now.mails c.args.to c.soonest.result c.soonest.ensures c.in-Some.moment (sym c.before-2.ensures ∙ c.in-Some.is))
    (skipped c.args.system.now c.in-Some.moment c.args.self.now) c.turn_at.new.self refl c.in_ok-next.ensures.state

pub returns-clause-rows : goal.returns-clause-rows
returns-clause-rows g c =
    stretch-given c.args.system.now c.args.self.now c.args.mail.now.mails c.in-Some.moment (busy-later c.args.system.now c.args.self.now c.args.mail.now.mails c.args.to c.soonest.result c.soonest.ensures c.in-Some.moment (sym c.before-2.ensures ∙ c.in-Some.is)) (quiet-first c.args.system.now c.args.self.now c.args.mail.now.mails c.args.to c.soonest.result c.soonest.ensures c.in-Some.moment (sym c.before-2.ensures ∙ c.in-Some.is))
    (skipped c.args.system.now c.in-Some.moment c.args.self.now) c.turn_at.new.self refl c.in_ok-next.ensures.state g.S.Sink.takes c.args.sink.now c.turn_at.new.sink c.in_ok-next.ensures.rows

pub returns-clause-signals : goal.returns-clause-signals
returns-clause-signals g c =
    stretch-told c.args.system.now c.args.self.now c.args.mail.now.mails c.in-Some.moment (busy-later c.args.system.now c.args.self.now c.args.mail.now.mails c.args.to c.soonest.result c.soonest.ensures c.in-Some.moment (sym c.before-2.ensures ∙ c.in-Some.is)) (quiet-first c.args.system.now c.args.self.now c.args.mail.now.mails c.args.to c.soonest.result c.soonest.ensures c.in-Some.moment (sym c.before-2.ensures ∙ c.in-Some.is))
    (skipped c.args.system.now c.in-Some.moment c.args.self.now) c.turn_at.new.self refl c.in_ok-next.ensures.state (λ (made : Ran). made.mails) c.args.signals.now.items c.turn_at.new.signals.items c.in_ok-next.ensures.signals

pub returns-clause-mail : goal.returns-clause-mail
returns-clause-mail g c =
    stretch-told c.args.system.now c.args.self.now c.args.mail.now.mails c.in-Some.moment (busy-later c.args.system.now c.args.self.now c.args.mail.now.mails c.args.to c.soonest.result c.soonest.ensures c.in-Some.moment (sym c.before-2.ensures ∙ c.in-Some.is)) (quiet-first c.args.system.now c.args.self.now c.args.mail.now.mails c.args.to c.soonest.result c.soonest.ensures c.in-Some.moment (sym c.before-2.ensures ∙ c.in-Some.is))
    (skipped c.args.system.now c.in-Some.moment c.args.self.now) c.turn_at.new.self refl c.in_ok-next.ensures.state (λ (made : Ran). made.box) [] c.turn_at.new.mail.mails c.in_ok-next.ensures.mail

pub returns-clause-last : goal.returns-clause-last
returns-clause-last g c =
    stretch-last c.args.system.now c.args.self.now c.args.mail.now.mails c.in-Some.moment (busy-later c.args.system.now c.args.self.now c.args.mail.now.mails c.args.to c.soonest.result c.soonest.ensures c.in-Some.moment (sym c.before-2.ensures ∙ c.in-Some.is)) (quiet-first c.args.system.now c.args.self.now c.args.mail.now.mails c.args.to c.soonest.result c.soonest.ensures c.in-Some.moment (sym c.before-2.ensures ∙ c.in-Some.is))
    (skipped c.args.system.now c.in-Some.moment c.args.self.now) c.turn_at.new.self refl c.in_ok-next.ensures.state

pub returns-in_default-clause-last : goal.returns-in_default-clause-last
returns-in_default-clause-last g c =
    let there : c.skip.new.self.clock ≡ c.args.to = ap (λ (s : State). s.clock) c.skip.ensures.state in
    no-rows c.args.system.now c.args.self.now c.args.mail.now.mails c.args.to (omega arith) (quiet-whole c.args.system.now c.args.self.now c.args.mail.now.mails c.args.to c.soonest.result c.soonest.ensures (sym c.before-2.ensures ∙ c.in_default.is) (omega arith)) (c.skip.new.self.clock - 1) (omega arith)

pub returns-in_default-clause-state : goal.returns-in_default-clause-state
returns-in_default-clause-state g c =
    quiet-state c.args.system.now c.args.self.now c.args.mail.now.mails c.args.to (omega arith) (quiet-whole c.args.system.now c.args.self.now c.args.mail.now.mails c.args.to c.soonest.result c.soonest.ensures (sym c.before-2.ensures ∙ c.in_default.is) (omega arith)) c.skip.new.self c.skip.ensures.state c.requires.fits c.requires.going c.skip.ensures.fits

pub returns-in_default-clause-rows : goal.returns-in_default-clause-rows
returns-in_default-clause-rows g c =
    let made = quiet-made c.args.system.now c.args.self.now c.args.mail.now.mails c.args.to (omega arith) (quiet-whole c.args.system.now c.args.self.now c.args.mail.now.mails c.args.to c.soonest.result c.soonest.ensures (sym c.before-2.ensures ∙ c.in_default.is) (omega arith)) c.skip.new.self c.skip.ensures.state in
    subst (λ (r : Ran). Given g.S.Sink.takes c.args.sink.now r.rows c.args.sink.now) (sym made) refl

pub returns-in_default-clause-signals : goal.returns-in_default-clause-signals
returns-in_default-clause-signals g c =
    let made = quiet-made c.args.system.now c.args.self.now c.args.mail.now.mails c.args.to (omega arith) (quiet-whole c.args.system.now c.args.self.now c.args.mail.now.mails c.args.to c.soonest.result c.soonest.ensures (sym c.before-2.ensures ∙ c.in_default.is) (omega arith)) c.skip.new.self c.skip.ensures.state in
    sym (append-nil c.args.signals.now.items) ∙ ap (λ (xs : List Mail). c.args.signals.now.items ++ xs) (sym (ap (λ (r : Ran). r.mails) made))

pub returns-in_default-clause-mail : goal.returns-in_default-clause-mail
returns-in_default-clause-mail g c =
    let made = quiet-made c.args.system.now c.args.self.now c.args.mail.now.mails c.args.to (omega arith) (quiet-whole c.args.system.now c.args.self.now c.args.mail.now.mails c.args.to c.soonest.result c.soonest.ensures (sym c.before-2.ensures ∙ c.in_default.is) (omega arith)) c.skip.new.self c.skip.ensures.state in
    sym (ap (λ (r : Ran). r.box) made)
