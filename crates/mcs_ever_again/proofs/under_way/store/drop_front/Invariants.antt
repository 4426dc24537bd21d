use Rattle.std.proofs.Common.{◌≡◌}
use Rattle.std.specs.Prelude.{filter}
use Rattle.mcs_ever_again.specs.UnderWay.{arrives_from}
use Rattle.mcs_ever_again.proofs.under_way.store.drop_front.Given as goal

abbrev pub invariant-loop : goal.invariant-loop
invariant-loop l = filter (arrives_from l.t) l.mails.items ≡ filter (arrives_from l.t) l.fn.mails.items
