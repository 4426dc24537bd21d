use Rattle.std.proofs.Common.{◌≡◌, arith, length}
use Rattle.std.proofs.lemmas.List.{take_at}
use Rattle.mcs_release.proofs.Stored.{IsStored-put, put-few, put-lower, put-stored, put-stored-few, put-within}
use Rattle.mcs_release.proofs.places.Places.put.Goals as goal

pub index_mut-requires : goal.index_mut-requires
index_mut-requires c = omega (arith, put-within _ _ _ c.self.invariant c.args.place 0 0 (omega arith) _ c.self.view_is c.requires.within)

pub key-requires : goal.key-requires
key-requires c = put-few _ _ _ c.self.invariant c.args.place 0 0 (omega arith) _ c.self.view_is c.requires.within

pub lower-requires-clause-within : goal.lower-requires-clause-within
lower-requires-clause-within c =
    omega (arith, put-within _ _ _ c.self.invariant c.args.place 0 0 (omega arith) _ c.self.view_is c.requires.within, c.self.invariant.wide)

pub lower-requires-clause-lower : goal.lower-requires-clause-lower
lower-requires-clause-lower c =
    rw (c.key.ensures.value, c.deref_mut.ensures.value)
    (put-lower _ _ _ c.self.invariant c.args.place c.args.entry.date 0 c.key.ensures.in_range _ c.self.view_is c.requires.within c.requires.empty)

pub invariant_of-self : goal.invariant_of-self
invariant_of-self c =
    let all : length c.lower.new.nodes ≡ c.self.inside.nodes.len = omega (arith, c.lower.auto.nodes, c.deref_mut.ensures.len) in
    rw (take_at c.lower.new.nodes _ c.self.inside.nodes.len all) (
    IsStored-put _ _ _ c.self.invariant c.args.place c.args.entry.date c.args.entry.thread c.key.ensures.in_range _ c.lower.ensures.tree (
    rw (c.key.ensures.value, c.deref_mut.ensures.value) at c.lower.ensures.leaves
    )
    )

pub returns : goal.returns
returns c =
    let all : length c.lower.new.nodes ≡ c.self.inside.nodes.len = omega (arith, c.lower.auto.nodes, c.deref_mut.ensures.len) in
    let lowered = rw (c.key.ensures.value, c.deref_mut.ensures.value) at c.lower.ensures.leaves in
    rw (take_at c.lower.new.nodes _ c.self.inside.nodes.len all) (record {
      put = put-stored _ _ _ c.self.invariant c.args.place c.args.entry.date c.args.entry.thread c.key.ensures.in_range _ c.self.view_is c.requires.within _ lowered;
      few = put-stored-few _ _ _ c.self.invariant c.args.place c.args.entry.date c.args.entry.thread c.key.ensures.in_range _ c.self.view_is c.requires.within _ lowered;
    })
