use Rattle.std.proofs.Common.{ap, ◌∙◌, rules}
use Rattle.std.specs.Prelude.{filter}
use Rattle.std.proofs.lemmas.Fn.{filter_same}
use Rattle.mcs_ever_again.specs.UnderWay.{arrives_from}
use Rattle.mcs_ever_again.proofs.Seen.{from-earlier}
use Rattle.mcs_ever_again.proofs.under_way.store.Store.sweep.Goals as goal

pub returns-clause-all : goal.returns-clause-all
returns-clause-all c = filter_same _ (arrives_from c.args.self.now.from) _ (λ x b f' k. search rules) _ _ c.retain.ensures.filtered

pub returns-clause-list : goal.returns-clause-list
returns-clause-list c =
    ap (filter (arrives_from c.args.self.now.from)) (returns-clause-all c)
    ∙ from-earlier c.args.self.now.from c.args.self.now.from (search rules) c.args.self.now.mails.items
