use Rattle.std.proofs.Common.{◌<◌, ◌≤◌, ◌+◌, ◌^◌, ap, arith}
use Rattle.mcs_window.specs.Desk.{Table}
use Rattle.mcs_window.proofs.Skips.{below-same, below-sooner, not-before, never-before}
use Rattle.mcs_window.proofs.desk.Desk.idle_until.Goals as goal
use Rattle.mcs_window.proofs.desk.Desk.idle_until.Goals.{in-Some+then-get, in-Some+else-get, in_default}

pub loop-core-preserved : goal.loop-core-preserved
loop-core-preserved g c =
    let t = c.args.self.now in
    let k = c.loop-core.core in
    let next = c.next_busy.ensures in
    let early : c.loop-core.until ≤ 2 ^ 42 = (let l = c.loop-core.invariant.in_time in let h = c.self.invariant.horizon in let same = ap (λ (table : Table). table.horizon) c.self.view_is in omega arith) in
    elim c.match-next_busy.branch [
      | in-Some+then-get w ↦ (let sooner : w.in-Some.moment < c.loop-core.until = omega arith in
          rw w.until-is (below-sooner t.system t.clocks (t.horizon + 1) k c.loop-core.until c.loop-core.invariant w.in-Some.moment sooner (rw w.in-Some.is at next)))
      | in-Some+else-get w ↦ (let late : c.loop-core.until ≤ w.in-Some.moment = omega arith in
          rw w.until-is (below-same t.system t.clocks (t.horizon + 1) k c.loop-core.until c.loop-core.invariant c.next_busy.result early (not-before c.next_busy.result w.in-Some.moment c.loop-core.until w.in-Some.is late) next))
      | in_default w ↦ rw w.until-is (below-same t.system t.clocks (t.horizon + 1) k c.loop-core.until c.loop-core.invariant c.next_busy.result early (never-before c.next_busy.result c.loop-core.until w.in_default.is) next)
    ]
