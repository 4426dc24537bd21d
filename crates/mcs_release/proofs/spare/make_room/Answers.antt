use Rattle.std.proofs.Common.{arith}
use Rattle.mcs_release.proofs.Entered.{length-entered}
use Rattle.mcs_release.proofs.spare.make_room.Goals as goal

pub move_over-requires-clause-within : goal.move_over-requires-clause-within
move_over-requires-clause-within c = omega (arith, c.close_up-front.ensures.count, c.close_up-front.ensures.len, length-entered c.args.places.now)
