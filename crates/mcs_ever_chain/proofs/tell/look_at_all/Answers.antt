use Rattle.std.proofs.Common.{◌-◌, ◌<◌, ◌≤◌, length, arith}
use Rattle.mcs_ever_chain.proofs.Results.{looks-set}
use Rattle.mcs_ever_chain.proofs.tell.look_at_all.Goals as goal

pub go_on-requires-clause-look : goal.go_on-requires-clause-look
go_on-requires-clause-look c =
    let i = c.loop-i.i in
    let look = c.index-looks-i.result in
    let known : i < length c.loop-i.looks = omega (arith, c.loop-i.auto.looks, c.loop-i-test.true) in
    let here : i ≤ i = omega arith in
    (c.loop-i.invariant.looks i look known).1 here

pub loop-i-preserved : goal.loop-i-preserved
loop-i-preserved c =
    let s = c.args.system.now in
    let run = c.args.run.now in
    let i = c.loop-i.i in
    let known : i < length c.loop-i.looks = omega (arith, c.loop-i.auto.looks, c.loop-i-test.true) in
    record {
      looks =
          looks-set s c.args.from (c.args.from - 1) run.lockstep.clock run.lockstep.clock i c.loop-i.looks c.go_on.new.self known c.loop-i.invariant.looks
          c.in_ok-found.ensures.look;
      told = c.keep.ensures s run.lockstep.horizon (c.in_ok-found.ensures.told run.lockstep.horizon) c.loop-i.invariant.told;
    }
