use Rattle.std.proofs.Common.{◌≡◌, refl, replicate, rules, arith}
use Rattle.mcs_ready.specs.stored.Lines.{no_thread}
use Rattle.mcs_ready.proofs.Kept.{IsKept-new}
use Rattle.mcs_ready.proofs.ready.Ready.new.Goals as goal

pub invariant_of-result : goal.invariant_of-result
invariant_of-result c =
    let lasts : c.in_ok-vec.field-0.items ≡ replicate 256 no_thread = c.in_ok-vec.ensures.items_if_clones_equal (search rules) in
    let next : c.in_ok-vec-2.field-0.items ≡ replicate c.args.threads no_thread = c.in_ok-vec-2.ensures.items_if_clones_equal (search rules) in
    rw (lasts, next) (IsKept-new _ 256 _ refl (omega arith) c.new.ensures)
