use Rattle.std.proofs.Common.{◌≡◌, ◌+◌, sym, ◌∙◌, subst, arith, rules, Some}
use Rattle.std.specs.Prelude.{OnOk}
use Rattle.mcs_core.specs.Turn.{Turn}
use Rattle.mcs_core.specs.stored.Parts.{Makes}
use Rattle.mcs_core.proofs.Counted.{known, tick-more, counted-sound, counted-can_stop, tick-idle}
use Rattle.mcs_core.proofs.Ends.{counted-goes}
use Rattle.mcs_core.proofs.Systems.{one-each}
use Rattle.mcs_core.proofs.local.Local.tick.Goals as goal

pub returns-in_default : goal.returns-in_default
returns-in_default g c =
    let P : Turn → Type 0 = λ turn. Makes g.S.Sink.takes c.args.here.now turn c.args.self.now c.args.log.now c.args.log.now in
    subst P (sym (tick-idle c.args.here.now.system.now c.args.here.now.core c.args.quiet c.args.here.now.moment c.args.self.now (sym c.running.ensures ∙ c.in_default.is))) (search rules)

pub finish-requires-clause-sound : goal.finish-requires-clause-sound
finish-requires-clause-sound g c =
    let runs : c.args.self.now.running ≡ Some c.in-Some.before = sym c.running.ensures ∙ c.in-Some.is in
    counted-sound c.args.here.now.system.now c.args.here.now.core c.args.quiet c.in-Some.before c.args.self.now runs c.requires.known
    (c.in-Some.before.using + c.args.quiet + 1) c.count-left.new.self (omega arith) c.count-left.ensures.core
    (one-each c.args.here.now.system.now c.requires.well_formed) c.args.here.now.moment c.requires.sound

pub may_stop-requires : goal.may_stop-requires
may_stop-requires g c =
    let runs : c.args.self.now.running ≡ Some c.in-Some.before = sym c.running.ensures ∙ c.in-Some.is in
    counted-can_stop c.args.here.now.system.now c.args.here.now.core c.args.quiet c.in-Some.before c.args.self.now runs c.requires.known
    (c.in-Some.before.using + (c.args.quiet + 1)) c.count-left.new.self (omega arith) c.count-left.ensures.core
    (one-each c.args.here.now.system.now c.requires.well_formed) c.args.here.now.moment c.requires.sound

pub returns-then-goes_on : goal.returns-then-goes_on
returns-then-goes_on g c =
    let runs : c.args.self.now.running ≡ Some c.in-Some.before = sym c.running.ensures ∙ c.in-Some.is in
    let within = known c.args.here.now.system.now c.args.here.now.core c.args.quiet c.in-Some.before c.args.self.now runs c.requires.known in
    let goes = rw runs at (c.requires.goes c.if-goes_on.true) in
    let P : Turn → Type 0 = λ turn. Makes g.S.Sink.takes c.args.here.now turn c.count-left.new.self c.args.log.now c.args.log.now in
    subst P (sym (tick-more c.args.here.now.system.now c.args.here.now.core c.args.quiet c.in-Some.before c.args.self.now runs c.requires.known
    (c.in-Some.before.using + (c.args.quiet + 1)) c.count-left.new.self (omega arith) c.count-left.ensures.core c.args.here.now.moment
    ∙ counted-goes c.args.here.now.system.now c.args.here.now.core c.args.here.now.moment c.args.quiet (c.in-Some.before.using + (c.args.quiet + 1)) c.in-Some.before c.args.self.now c.count-left.new.self within (omega arith)
    c.count-left.ensures.core goes))
    (search rules)

pub returns-then-left-eq0 : goal.returns-then-left-eq0
returns-then-left-eq0 g c =
    let runs : c.args.self.now.running ≡ Some c.in-Some.before = sym c.running.ensures ∙ c.in-Some.is in
    let P : Turn → Type 0 = λ turn. OnOk c.finish.result (Makes g.S.Sink.takes c.args.here.now turn c.finish.new.self c.args.log.now c.finish.new.log) in
    subst P (sym (tick-more c.args.here.now.system.now c.args.here.now.core c.args.quiet c.in-Some.before c.args.self.now runs c.requires.known
    (c.in-Some.before.using + (c.args.quiet + 1)) c.count-left.new.self (omega arith) c.count-left.ensures.core c.args.here.now.moment))
    (search rules)

pub returns-else-left-eq0 : goal.returns-else-left-eq0
returns-else-left-eq0 g c =
    let runs : c.args.self.now.running ≡ Some c.in-Some.before = sym c.running.ensures ∙ c.in-Some.is in
    let P : Turn → Type 0 = λ turn. OnOk c.may_stop.result (Makes g.S.Sink.takes c.args.here.now turn c.may_stop.new.self c.args.log.now c.may_stop.new.log) in
    subst P (sym (tick-more c.args.here.now.system.now c.args.here.now.core c.args.quiet c.in-Some.before c.args.self.now runs c.requires.known
    (c.in-Some.before.using + (c.args.quiet + 1)) c.count-left.new.self (omega arith) c.count-left.ensures.core c.args.here.now.moment))
    (search rules)
