use Rattle.std.proofs.Common.{◌≡◌, ◌∙◌, replicate, false, rules}
use Rattle.std.specs.Arc.{arc_value}
use Rattle.mcs_window.proofs.Openings.{opened_kept}
use Rattle.mcs_window.proofs.cores.Cores.new.Goals as goal

pub invariant_of-result : goal.invariant_of-result
invariant_of-result c =
    let s = arc_value c.args.system in
    let clocks : c.in_ok-clocks.clocks.items ≡ replicate s.cores 0 = search rules in
    let taken : c.in_ok-taken.taken.items ≡ replicate s.cores 0 = search rules in
    let same = c.parts.ensures.same ∙ c.deref.ensures in
    opened_kept (record { system = c.args.system; horizon = c.args.horizon; clocks = c.in_ok-clocks.clocks; taken = c.in_ok-taken.taken; states = c.in_ok-states.states; boxes = c.in_ok-boxes.boxes; rows = c.in_ok-rows.rows; delays = c.in_ok-delays.delays; failed = false; signals = c.new.result })
    c.requires (rw c.deref.ensures at c.parts.ensures.well_formed) clocks taken
    (rw c.deref-2.ensures at c.in_ok-states.ensures) (rw same at c.in_ok-boxes.ensures) (rw same at c.in_ok-rows.ensures) (rw c.deref-3.ensures at c.in_ok-delays.ensures) c.new.ensures.items
