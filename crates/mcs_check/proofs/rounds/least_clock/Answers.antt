use Rattle.std.proofs.Common.{◌≡◌, ◌+◌, ◌≤◌, ◌<◌, min, arith, rules}
use borrow.Author.Count.{below_more}
use Rattle.mcs_window.specs.Desk.{clock_of}
use Rattle.mcs_check.proofs.rounds.least_clock.Goals as goal

pub loop-core-preserved : goal.loop-core-preserved
loop-core-preserved g c =
    let desk = c.args.desk.now in
    let r = c.loop-core in
    let least : c.min-least.result ≡ min r.least c.clock.result = search rules in
    let at = c.clock.ensures.value in
    let in_time = c.clock.ensures.in_time in
    let known : r.core < desk.system.cores = (let end = c.cores-core-end.ensures in let below = c.loop-core-test.true in omega arith) in (
      below_more (λ k. c.min-least.result ≤ clock_of desk k) r.core (λ k l. let so_far = r.invariant.0 k l in omega arith) (omega arith),
      below_more (λ k. clock_of desk k ≤ desk.horizon + 1) r.core r.invariant.1 (omega arith),
      (let so_far = r.invariant.2 in omega arith),
      λ to l each. let so_far = r.invariant.3 to l each in let here = each r.core known in omega arith,
    )
