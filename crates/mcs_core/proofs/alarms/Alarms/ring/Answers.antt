use Rattle.std.proofs.Common.{◌≡◌, None, sym, rules}
use Rattle.mcs_core.specs.Alarms.{first_ringing}
use Rattle.mcs_core.proofs.Ringing.{none-rung}
use Rattle.mcs_core.proofs.alarms.Alarms.ring.Goals as goal

pub returns-in_err-k-clause-left : goal.returns-in_err-k-clause-left
returns-in_err-k-clause-left c =
    let none : first_ringing c.args.moment c.args.self.now ≡ None = search rules in
    sym (none-rung c.args.moment c.args.self.now none)
