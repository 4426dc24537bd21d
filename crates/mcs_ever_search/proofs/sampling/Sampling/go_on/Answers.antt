use Rattle.std.proofs.Common.{inl, inr, ap, ◌∙◌}
use Rattle.mcs_ever_search.specs.Compared.{Compared}
use Rattle.mcs_ever_search.proofs.Keeping.{err-holds}
use Rattle.mcs_ever_search.proofs.Stepping.{in-time, goes-on}
use Rattle.mcs_ever_search.proofs.sampling.Sampling.go_on.Goals as goal

pub turn-requires : goal.turn-requires
turn-requires c = in-time c.args.compared.now c.keep_where_due.new.compared c.in_ok-keep_where_due.ensures.kept c.requires

pub go_to_next-requires : goal.go_to_next-requires
go_to_next-requires c = ap (λ (compared : Compared). compared.failed) c.in_ok-turn.ensures.compared ∙ c.in_ok-turn.ensures.going

pub returns-clause-on : goal.returns-clause-on
returns-clause-on c =
    goes-on c.args.compared.now c.keep_where_due.new.compared c.turn.new.self c.go_to_next.new.compared c.args.rows.now.items c.turn.new.rows.items
    c.in_ok-keep_where_due.ensures.kept c.in_ok-turn.ensures.going c.in_ok-turn.ensures.compared c.in_ok-turn.ensures.rows c.in_ok-turn.ensures.schedule
    c.go_to_next.ensures

pub returns-in_err-keep_where_due-clause-err : goal.returns-in_err-keep_where_due-clause-err
returns-in_err-keep_where_due-clause-err c = err-holds c.from_residual.result (inr c.in_err-keep_where_due.ensures.err)

pub returns-in_err-turn-clause-err : goal.returns-in_err-turn-clause-err
returns-in_err-turn-clause-err c =
    err-holds c.from_residual-in_err-turn.result (inl (ap (λ (compared : Compared). compared.failed) c.in_err-turn.ensures.err))
