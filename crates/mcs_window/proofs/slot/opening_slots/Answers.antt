use Rattle.std.proofs.Common.{rules, ◌∙◌, subst, sym}
use Rattle.mcs_system.specs.System.{System}
use Rattle.mcs_core.specs.State.{Fits, opening_state}
use Rattle.std.specs.Arc.{arc_value}
use Rattle.std.specs.Prelude.{◌≡◌}
use Rattle.mcs_window.specs.declared.slot.Slot.TheVariants.{Here}
use Rattle.mcs_window.proofs.Slots.{fresh-more}
use Rattle.mcs_window.proofs.slot.opening_slots.Goals as goal

pub loop-core-preserved : goal.loop-core-preserved
loop-core-preserved c =
    let k = c.loop-core.core in
    let state = c.in_ok-state.state in
    let boxed : c.in_ok-boxed.boxed.value ≡ state = search rules in
    let opening = subst (λ (x : System). state ≡ opening_state x k) c.deref-in-loop-core.ensures c.in_ok-state.ensures.state in
    let fits = subst (λ (x : System). Fits x state) c.deref-in-loop-core.ensures c.in_ok-state.ensures.fits in
    fresh-more (arc_value c.args.system.now) k c.loop-core.slots.items c.push.new.self.items (Here c.in_ok-spare.spare c.in_ok-boxed.boxed) c.loop-core.invariant
    (c.in_ok-spare.ensures, boxed ∙ opening, subst (Fits (arc_value c.args.system.now)) (sym boxed) fits) c.in_ok-push.ensures.items
