use Rattle.std.proofs.Common.{◌≡◌, ℕ, ◌-◌, sym, subst, arith, rules}
use Rattle.mcs_ever_again.specs.Sources.{AlarmsAreLater}
use Rattle.mcs_ever_again.proofs.Recurring.{recurs}
use Rattle.mcs_ever_again.proofs.recurs.shifts.Shifts.between.Goals as goal

pub returns : goal.returns
returns c = λ run.
    let from : c.get-from.result ≡ c.args.before.now.moment = omega arith in
    record {
      recurs = recurs c.args.system.now c.args.group.now c.args.before.now c.args.after.now c.args.marks.now (c.get-past.result - c.get-from.result) c.in-Some.lags.items run
          (search rules) c.rows_are_of_own.ensures c.marks_tell.ensures c.parts-parts.ensures.well_formed (omega arith) (omega arith) (subst (λ (n : ℕ). AlarmsAreLater c.args.system.now c.args.group.now n (c.get-past.result - c.get-from.result)) from (c.sources_are_later.ensures (search rules)))
          (rw (sym c.under_way.ensures) (rw (sym c.under_way-2.ensures) (c.is_later.ensures.0 (search rules)))) (rw (sym c.as_slice.ensures.value) (c.marked_keep_up.ensures (search rules)));
      period = omega arith;
    }
