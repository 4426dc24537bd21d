use Rattle.std.proofs.Common.{◌≡◌, ◌∙◌, ◌^◌, ap}
use Rattle.std.proofs.lemmas.Result.{err_from_is_err_and}
use Rattle.toml.specs.View.{table_view}
use Rattle.mcs_load.specs.declared.spot.Key.TheVariants as key
use Rattle.mcs_load.specs.Checks.{first_failed}
use Rattle.mcs_load.specs.Words.{whole_number, number_with_default}
use Rattle.mcs_load.specs.Dates.{offsets, read_dates}
use Rattle.mcs_load.proofs.Each.{fails_first, fails_later}
use Rattle.mcs_load.proofs.source.read_dates.Goals as goal

pub returns-in_err-offsets-clause-gives : goal.returns-in_err-offsets-clause-gives
unfolding read_dates
returns-in_err-offsets-clause-gives c =
    let p = err_from_is_err_and c.from_residual-in_err-offsets.result c.from_residual-in_err-offsets.ensures.1 in
    let row = table_view c.args.row.now in
    let at = c.args.at in
    let period = whole_number at key.Period 1 (2 ^ 40) row in
    let start = number_with_default at key.Start 0 (2 ^ 40) 0 row in
    let count = number_with_default at key.Count 0 (2 ^ 40) 0 row in
    let found = offsets c.args.taken period.value at row in
    rw (p.1, p.2)
    (λ h.
    fails_later period.tests _ c.in_ok-period.ensures.gives.0
    ∙ (fails_later start.tests _ c.in_ok-start.ensures.gives.0
    ∙ (fails_later count.tests _ c.in_ok-count.ensures.gives.0
    ∙ fails_first found.tests _ c.in_err-offsets.field-0.0
    (ap (λ n. first_failed (offsets c.args.taken n at row).tests) c.in_ok-period.ensures.gives.1 ∙ c.in_err-offsets.ensures.gives h))))
