use Rattle.std.proofs.Common.{◌≡◌, ◌+◌, ◌-◌, ◌*◌, ◌/◌, ◌^◌, sym, ap, arith}
use Rattle.mcs_histogram.specs.Buckets.{bucket}
use Rattle.mcs_histogram.proofs.Buckets.{log_doubled, doublings_is, number-lt}
use Rattle.mcs_histogram.proofs.bucket.bucket.Goals as goal

abbrev is : (c : goal.After-ilog2-doublings)
    → 64 * (c.ilog2-doublings.result - 6) + c.args.value / 2 ^ (c.ilog2-doublings.result - 6) ≡ bucket c.args.value
is c =
    let log = c.ilog2-doublings.ensures in
    let found = log_doubled c.args.value c.max.result c.ilog2-doublings.result c.max.ensures log.power_le log.next_power_gt log.bound in
    ap (λ d. 64 * d + c.args.value / 2 ^ d) (sym (doublings_is c.args.value (c.ilog2-doublings.result - 6) found.1))

pub overflow_sub-doublings : goal.overflow_sub-doublings
overflow_sub-doublings c =
    let log = c.ilog2-doublings.ensures in
    (log_doubled c.args.value c.max.result c.ilog2-doublings.result c.max.ensures log.power_le log.next_power_gt log.bound).0

pub overflow_add-result : goal.overflow_add-result
overflow_add-result c = omega (arith, is c, number-lt c.args.value (omega arith))

pub returns-clause-number : goal.returns-clause-number
returns-clause-number c = is c

pub returns-clause-known : goal.returns-clause-known
returns-clause-known c = omega (arith, is c, number-lt c.args.value (omega arith))
