use Rattle.mcs_team.proofs.Waking.{caught-up, lent-silent}
use Rattle.mcs_team.proofs.shared_desk.SharedDesk.lend_piece.Goals as goal

pub catch_up-requires : goal.catch_up-requires
catch_up-requires g c =
    let before = c.args.self.now.desk in
    let lent = c.lend_within-piece in
    caught-up g.B.Run.system before lent.new.self c.clocks-before.result c.args.self.now.ours.0 lent.ensures.same_run.system_is c.clocks-before.ensures
    (lent-silent before lent.new.self c.span-span.result lent.result _ c.idle_is_silent.ensures lent.ensures.some lent.ensures.none)
