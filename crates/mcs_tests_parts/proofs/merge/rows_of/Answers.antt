use Rattle.std.proofs.Common.{◌≤◌, rules}
use Rattle.mcs_merge.proofs.Pushes.{AreUntil-push, DoNotFall-push}
use Rattle.mcs_tests_parts.proofs.merge.rows_of.Goals as goal

pub loop-moment-preserved : goal.loop-moment-preserved
loop-moment-preserved c =
    let later : c.loop-moment.last ≤ c.in_ok-moment.moment = search rules in
    rw c.in_ok-push.ensures.items
    (record {
      in_order = DoNotFall-push c.loop-moment.last _ _ c.loop-moment.invariant.in_order c.loop-moment.invariant.until later;
      until = AreUntil-push c.loop-moment.last _ _ c.loop-moment.invariant.until later;
    })
