use Rattle.std.proofs.Common.{sym, rules}
use Rattle.mcs_ever_again.proofs.Seen.{from-later, from-earlier}
use Rattle.mcs_ever_again.proofs.under_way.store.Store.go_on_to.Goals as goal

pub returns-then-lt : goal.returns-then-lt
returns-then-lt c = sym (from-later c.args.self.now.from c.args.t (search rules) c.args.self.now.mails.items)

pub returns-else-lt : goal.returns-else-lt
returns-else-lt c = sym (from-earlier c.args.t c.args.self.now.from (search rules) c.args.self.now.mails.items)
