use Rattle.std.proofs.Common.{◌≡◌, ◌<◌, ◌∙◌, [], ap, sym, subst, arith}
use Rattle.std.specs.Prelude.{slice_index}
use Rattle.std.specs.Arc.{arc_value}
use Rattle.mcs_window.specs.Desk.{Table, clock_of}
use Rattle.mcs_window.proofs.Running.{taken_kept}
use Rattle.mcs_window.proofs.desk.Desk.take.Goals as goal

pub invariant_of-self : goal.invariant_of-self
invariant_of-self g c =
    let a = c.self.inside in
    let k = c.core.inside.0 in
    let known : k < (arc_value a.system).cores = (let same = ap (λ (t : Table). t.system.cores) c.self.view_is in let view = c.core.view_is in omega (arith, c.requires.known)) in
    let clock : c.clock-clock.result ≡ slice_index a.clocks k = c.clock-clock.ensures.value ∙ ap (λ t. clock_of t c.args.core) (sym c.self.view_is) ∙ ap (slice_index a.clocks) (sym c.core.view_is) in
    taken_kept a c.self.invariant k c.clock-clock.result c.replace.new.dest known (subst (λ s. g.S.Collector.holds s []) (sym c.replace.ensures.after) c.requires.empty) clock
