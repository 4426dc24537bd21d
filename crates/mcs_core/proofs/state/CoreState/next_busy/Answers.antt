use Rattle.std.proofs.Common.{sym, subst}
use Rattle.std.specs.Prelude.{Option, ℕ}
use Rattle.mcs_ticks.specs.Queue.{by_priority}
use Rattle.mcs_core.specs.Quiet.{IsNextBusyWith}
use Rattle.mcs_core.proofs.QuietAlike.{busy-of-one-list}
use Rattle.mcs_core.proofs.state.CoreState.next_busy.Goals as goal

pub returns-clause-one_list : goal.returns-clause-one_list
returns-clause-one_list c core e =
    let P : Option ℕ → Type 0 = λ o. IsNextBusyWith by_priority c.args.system.now c.args.self.now.number c.args.self.now.clock c.args.mail.now.mails c.args.self.now.core o in
    busy-of-one-list c.args.system.now c.args.self.now core e c.args.mail.now.mails c.moment.result (subst P (sym c.moment.ensures) c.soonest.ensures)
