use Rattle.std.proofs.Common.{ap, ◌∙◌, rules}
use Rattle.std.specs.Prelude.{filter}
use Rattle.mcs_ever_again.specs.UnderWay.{arrives_from}
use Rattle.mcs_ever_again.proofs.Seen.{from-earlier}
use Rattle.mcs_ever_again.proofs.under_way.store.Store.go_back_to.Goals as goal

pub returns-clause-list : goal.returns-clause-list
returns-clause-list c =
    ap (filter (arrives_from c.args.t)) c.sweep.ensures.all ∙ from-earlier c.args.t c.args.self.now.from (search rules) c.args.self.now.mails.items
