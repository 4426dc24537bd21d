use Rattle.std.proofs.Common.{◌≡◌, List, rules, subst}
use Rattle.mcs_ticks.specs.declared.row.Row.{Row}
use Rattle.mcs_ticks.specs.Given.{Given, GivenUntil}
use Rattle.mcs_team.proofs.Giving.{on_err}
use Rattle.mcs_team.proofs.outflow.RowRelayRelay.give.Goals as goal

pub returns-in_err-give_all-clause-refused : goal.returns-in_err-give_all-clause-refused
returns-in_err-give_all-clause-refused g c = λ rows fits told.
    let same : c.as_slice.result.now ≡ rows = search rules in
    on_err c.from_residual.result (subst (λ (xs : List Row). GivenUntil g.S.Sink.takes c.args.out.now xs c.give_all.new.sink) same c.in_err-give_all.ensures.refused)

pub returns-clause-given : goal.returns-clause-given
returns-clause-given g c = λ rows fits told.
    let same : c.as_slice.result.now ≡ rows = search rules in
    (subst (λ (xs : List Row). Given g.S.Sink.takes c.args.out.now xs c.give_all.new.sink) same c.in_ok-give_all.ensures.given, search rules)
