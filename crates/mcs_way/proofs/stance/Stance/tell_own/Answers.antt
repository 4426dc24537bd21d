use Rattle.std.proofs.Common.{◌≡◌, ◌∙◌, true, ap, sym}
use Rattle.mcs_verdict.specs.Standing.{telling, tells}
use Rattle.mcs_verdict.proofs.Orders.{since-up_to}
use Rattle.mcs_way.specs.Stances.{stance_of}
use Rattle.mcs_way.proofs.Standings.{telling-more}
use Rattle.mcs_way.proofs.stance.Stance.tell_own.Goals as goal

pub returns-then-is_telling : goal.returns-then-is_telling
returns-then-is_telling c = λ thread past e up own.
    let r = c.args.row.now in
    let tells_it : tells thread r.what ≡ true = sym (c.is_telling.ensures thread own) ∙ c.if-is_telling.true in
    c.tell.ensures (telling thread past) e (since-up_to thread r.moment past up)
    ∙ ap (stance_of c.args.from.now) (sym (telling-more thread r past tells_it))
