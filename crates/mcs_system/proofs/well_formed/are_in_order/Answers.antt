use Rattle.std.proofs.Common.{arith}
use Rattle.mcs_system.specs.WellFormed.{DoPrecede}
use Rattle.mcs_system.proofs.InOrder.{ordered_more, ordered_not}
use Rattle.mcs_system.proofs.well_formed.are_in_order.Goals as goal

pub returns-then-not-stands_behind : goal.returns-then-not-stands_behind
returns-then-not-stands_behind c =
    let xs = c.args.beats.now in
    (λ h. absurd (let f : ⊥ = cc in f), λ all. absurd (ordered_not DoPrecede xs c.loop-i.i c.index-beats-i.result (omega arith) c.index-beats-i.is (λ each. let e = c.stands_behind.ensures.1 each in cc) all.each))

pub loop-i-preserved : goal.loop-i-preserved
loop-i-preserved c =
    let xs = c.args.beats.now in
    ordered_more DoPrecede xs c.loop-i.i c.index-beats-i.result (omega arith) c.index-beats-i.is (c.stands_behind.ensures.0 cc) c.loop-i.invariant
