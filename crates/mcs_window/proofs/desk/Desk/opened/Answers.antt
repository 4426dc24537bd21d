use Rattle.std.proofs.Common.{◌∙◌, false, refl, ap, replicate}
use Rattle.std.specs.Arc.{arc_value}
use Rattle.mcs_window.proofs.Slots.{opened_desk, opened_loans, with_loans}
use Rattle.mcs_window.proofs.desk.Desk.opened.Goals as goal

pub invariant_of-result-3 : goal.invariant_of-result-3
invariant_of-result-3 g c =
    let same = c.parts.ensures.same ∙ c.deref.ensures in
    opened_desk g.S.Collector.holds (record { system = c.args.system; horizon = c.args.horizon; lost = false; clocks = replicate 64 0; taken = replicate 64 0; slots = c.in_ok-slots.slots; boxes = c.in_ok-boxes.boxes; told = c.args.told; delays = c.in_ok-delays.delays; reaches = c.in_ok-reaches.reaches; signals = c.new.result; alloc = c.args.alloc })
    c.requires.in_range (rw c.deref.ensures at c.parts.ensures.well_formed) refl refl c.in_ok-slots.ensures (rw same at c.in_ok-boxes.ensures) c.requires.empty (rw c.deref-2.ensures at c.in_ok-delays.ensures) (rw c.deref-3.ensures at c.in_ok-reaches.ensures)

pub returns : goal.returns
returns g c =
    ap (with_loans (arc_value c.args.system) c.args.horizon) (opened_loans (arc_value c.args.system) c.in_ok-slots.slots.items c.in_ok-slots.ensures)
