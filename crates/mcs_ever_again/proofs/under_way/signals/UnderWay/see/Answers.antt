use Rattle.std.proofs.Common.{◌≡◌, [], ◌∷◌, ◌++◌, ◌∙◌, rules}
use Rattle.std.specs.Prelude.{filter}
use Rattle.mcs_system.specs.WellFormed.{IsWellFormed}
use Rattle.mcs_ever_again.specs.UnderWay.{told_mails, can_arrive}
use Rattle.mcs_ever_again.specs.stored.Store.{left}
use Rattle.mcs_ever_again.proofs.Seen.{seen-told}
use Rattle.mcs_ever_again.proofs.under_way.signals.UnderWay.see.Goals as goal

pub returns-in_ok-put-clause-told : goal.returns-in_ok-put-clause-told
returns-in_ok-put-clause-told c = λ t past e l m.
    let well : IsWellFormed c.args.system.now = search rules in
    let joined : left c.put.new.self ≡ c.args.self.now ++ filter can_arrive (told_mails c.args.system.now (c.args.row.now ∷ [])) = search rules in
    joined ∙ seen-told c.args.system.now well c.args.row.now t past c.args.self.now e l m

pub returns-in_default-clause-told : goal.returns-in_default-clause-told
returns-in_default-clause-told c = λ t past e l m.
    let well : IsWellFormed c.args.system.now = search rules in
    let joined : c.args.self.now ≡ c.args.self.now ++ filter can_arrive (told_mails c.args.system.now (c.args.row.now ∷ [])) = search rules in
    joined ∙ seen-told c.args.system.now well c.args.row.now t past c.args.self.now e l m
