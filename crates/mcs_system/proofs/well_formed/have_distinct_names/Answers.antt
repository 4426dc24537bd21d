use Rattle.std.proofs.Common.{arith}
use Rattle.mcs_system.proofs.Distinct.{differ_more, differ_not}
use Rattle.mcs_system.proofs.well_formed.have_distinct_names.Goals as goal

pub returns-then-shares_name : goal.returns-then-shares_name
returns-then-shares_name g c =
    let xs = c.args.things.now in
    (λ h. absurd (let f : ⊥ = cc in f), λ all. absurd (differ_not g.T.Named.name xs c.loop-i.i c.index-things-i.result (omega arith) c.index-things-i.is (c.shares_name.ensures.0 c.if-shares_name.true) all))

pub loop-i-preserved : goal.loop-i-preserved
loop-i-preserved g c =
    let xs = c.args.things.now in
    differ_more g.T.Named.name xs c.loop-i.i c.index-things-i.result (omega arith) c.index-things-i.is (λ some. let e = c.shares_name.ensures.1 some in cc) c.loop-i.invariant
