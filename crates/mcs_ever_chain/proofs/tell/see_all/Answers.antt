use Rattle.std.proofs.Common.{◌+◌, ◌<◌, ◌≤◌, length, arith}
use Rattle.mcs_ever_chain.proofs.Results.{looks-set}
use Rattle.mcs_ever_chain.proofs.tell.see_all.Goals as goal

pub loop-i-preserved : goal.loop-i-preserved
loop-i-preserved c = λ system t rows are.
    let i = c.loop-i.i in
    let looks = c.loop-i.looks in
    let look = c.index-looks-i.result in
    let so_far = c.loop-i.invariant system t rows are in
    let known : i < length looks = omega (arith, c.loop-i.auto.looks, c.loop-i-test.true) in
    let here : i ≤ i = omega arith in
    let old = (so_far i look known).1 here in
    looks-set system t t (t + 1) t i looks c.see.new.self known so_far (c.see.ensures system t rows old)
