use Rattle.std.proofs.Common.{◌≤◌, ◌∷◌, arith}
use Rattle.mcs_verdict.specs.Standing.{telling}
use Rattle.mcs_verdict.proofs.Orders.{since-up_to}
use Rattle.mcs_way.proofs.stance.Stance.see.Goals as goal

pub returns : goal.returns
returns c = λ thread past e up own next.
    let r = c.args.row.now in
    let now : r.moment ≤ r.moment = omega arith in
    c.turn.ensures (telling thread (r ∷ past)) (c.tell_own.ensures thread past e up own) (since-up_to thread r.moment (r ∷ past) (now, up)) next
