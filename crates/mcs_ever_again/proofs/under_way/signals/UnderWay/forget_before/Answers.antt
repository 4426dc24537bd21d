use Rattle.std.proofs.Common.{ap, ◌∙◌}
use Rattle.std.specs.Prelude.{filter}
use Rattle.mcs_ever_again.specs.UnderWay.{arrives_from}
use Rattle.mcs_ever_again.proofs.Seen.{forgotten-told, forgotten-clock}
use Rattle.mcs_ever_again.proofs.under_way.signals.UnderWay.forget_before.Goals as goal

pub returns-clause-left : goal.returns-clause-left
returns-clause-left c =
    c.forget_before.ensures ∙ ap (filter (arrives_from c.args.t)) c.self.view_is

pub returns-clause-told : goal.returns-clause-told
returns-clause-told c = λ system before past l e. returns-clause-left c ∙ forgotten-told system before c.args.t past c.args.self.now l e

pub returns-clause-clock : goal.returns-clause-clock
returns-clause-clock c = λ system before well l e. returns-clause-left c ∙ forgotten-clock system well before c.args.t c.args.self.now l e
