use Rattle.std.proofs.Common.{◌≡◌, ◌+◌, ◌*◌, ◌/◌, arith, length, replicate, rules}
use Rattle.mcs_release.specs.stored.Least.{empty}
use Rattle.mcs_release.proofs.Stored.{AreEmptyFrom-new, IsStored-new, count-stored}
use Rattle.mcs_release.proofs.places.Places.new.Goals as goal

pub invariant_of-result : goal.invariant_of-result
invariant_of-result c =
    let nodes : c.in_ok-nodes.nodes.items ≡ replicate (4 * (c.args.wanted / 3 + 1) + 4) empty = c.in_ok-nodes.ensures.items_if_clones_equal (search rules) in
    let threads : length c.in_ok-threads.threads.items ≡ 3 * (c.args.wanted / 3 + 1) + 1 = omega (arith, c.in_ok-threads.ensures.len) in
    IsStored-new _ _ _ nodes threads (omega arith)

pub returns : goal.returns
returns c =
    let nodes : c.in_ok-nodes.nodes.items ≡ replicate (4 * (c.args.wanted / 3 + 1) + 4) empty = c.in_ok-nodes.ensures.items_if_clones_equal (search rules) in
    let threads : length c.in_ok-threads.threads.items ≡ 3 * (c.args.wanted / 3 + 1) + 1 = omega (arith, c.in_ok-threads.ensures.len) in
    let count = count-stored _ _ _ (IsStored-new _ _ _ nodes threads (omega arith)) in
    record { empty = AreEmptyFrom-new _ _ _ nodes threads (omega arith); wide = omega (arith, count) }
