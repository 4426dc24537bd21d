use Rattle.std.proofs.Common.{◌≡◌, ◌+◌, ◌*◌, ◌/◌, replicate, rules}
use Rattle.mcs_merge.specs.declared.heads.Head.{Head}
use Rattle.mcs_merge.specs.stored.Heads.{far}
use Rattle.mcs_merge.proofs.Trees.{IsTree-far, leaves-far}
use Rattle.mcs_merge.proofs.heads.Heads.new.Goals as goal

pub invariant_of-result : goal.invariant_of-result
invariant_of-result c =
    let nodes : c.in_ok-nodes.nodes.items ≡ replicate {A = Head} (4 * ((c.args.cores + 1) / 3) + 1) far = c.in_ok-nodes.ensures.items_if_clones_equal (search rules) in
    rw nodes (IsTree-far _)

pub returns-clause-far : goal.returns-clause-far
returns-clause-far c =
    let nodes : c.in_ok-nodes.nodes.items ≡ replicate {A = Head} (4 * ((c.args.cores + 1) / 3) + 1) far = c.in_ok-nodes.ensures.items_if_clones_equal (search rules) in
    leaves-far _ _ nodes
