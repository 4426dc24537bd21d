use Rattle.std.proofs.Common.{◌≡◌, ◌<◌, ◌^◌, arith, length}
use Rattle.std.proofs.lemmas.List.{take_at}
use Rattle.mcs_release.proofs.Stored.{IsStored-clear, IsTaken-stored, first-within}
use Rattle.mcs_release.proofs.places.Places.take_first.Goals as goal

pub clear-requires-clause-within : goal.clear-requires-clause-within
clear-requires-clause-within c =
    let fits : c.index.result.now < 2 ^ 64 = omega arith in
    omega (arith, first-within _ _ _ c.self.invariant c.index.result.now c.index.ensures (omega arith) _ c.self.view_is c.requires, c.self.invariant.wide)

pub index-requires-2 : goal.index-requires-2
index-requires-2 c =
    let fits : c.index.result.now < 2 ^ 64 = omega arith in
    omega (arith, first-within _ _ _ c.self.invariant c.index.result.now c.index.ensures (omega arith) _ c.self.view_is c.requires)

pub invariant_of-self : goal.invariant_of-self
invariant_of-self c =
    let len = c.self.inside.nodes.len in
    let all : length c.clear.new.nodes ≡ len = omega (arith, c.clear.auto.nodes, c.deref_mut.ensures.len) in
    rw (take_at c.clear.new.nodes _ len all) (
    IsStored-clear _ _ _ c.self.invariant _ _ c.clear.ensures.tree (rw c.deref_mut.ensures.value at c.clear.ensures.leaves)
    )

pub returns : goal.returns
returns c =
    let len = c.self.inside.nodes.len in
    let all : length c.clear.new.nodes ≡ len = omega (arith, c.clear.auto.nodes, c.deref_mut.ensures.len) in
    let fits : c.index.result.now < 2 ^ 64 = omega arith in
    rw (take_at c.clear.new.nodes _ len all) (
    IsTaken-stored _ _ _ c.self.invariant c.index.result.now c.index.ensures (omega arith) _ c.self.view_is c.requires _ _ (rw c.deref_mut.ensures.value at c.clear.ensures.leaves) c.index-2.ensures
    )
