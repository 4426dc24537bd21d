use Rattle.std.proofs.Common.{rules, ◌≡◌, ap, arith, refl, subst}
use Rattle.std.specs.Arc.{arc_value}
use Rattle.mcs_system.specs.System.{System}
use Rattle.mcs_window.specs.Desk.{opening_table}
use Rattle.mcs_check.proofs.Cores.{unused-more, unused-ready, AreUnused, IsUnused}
use Rattle.mcs_check.proofs.rounds.opening_cores.Goals as goal

pub loop-preserved : goal.loop-preserved
loop-preserved c =
    let system = arc_value c.args.system.now in
    let same : c.deref-in-loop.result.now ≡ arc_value c.args.system.now = search rules in
    unused-more system c.loop.counter c.loop.watches.items c.push.new.self.items c.in_ok-new.field-0 c.loop.invariant (subst (λ s. IsUnused s c.in_ok-new.field-0) same c.in_ok-new.ensures)
    c.in_ok-push.ensures.items

pub returns : goal.returns
returns c = λ allowed.
    let system = arc_value c.args.system.now in
    let same : c.parts.result.now ≡ arc_value c.args.system.now = search rules in
    let number = ap (λ (s : System). s.cores) same in
    let over = c.loop-test.false in
    let end = c.loop.auto.counter-end in
    let all : c.loop.counter ≡ system.cores = omega arith in
    let desk_is : c.in_ok-opened.field-0 ≡ opening_table (arc_value c.args.system.now) c.args.horizon = search rules in
    (unused-ready system allowed c.args.horizon _ (subst (λ n. AreUnused system n c.loop.watches.items) all c.loop.invariant) desk_is refl, refl)
