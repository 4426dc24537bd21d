use Rattle.std.proofs.Common.{◌<◌, ◌+◌, ◌-◌, ◌*◌, ◌/◌, ◌%◌, ◌^◌, Some, length, get_or, bit_and, sym, arith, get_or-set_same}
use Rattle.mcs_ready.specs.stored.Priorities.{IsGreatest}
use Rattle.mcs_ready.proofs.Marks.{has-cleared}
use Rattle.mcs_ready.proofs.Greatest.{greatest-in_word, IsEnd-behind}
use Rattle.mcs_ready.proofs.priorities.Priorities.remove.Goals as goal

pub invariant_of-self-else-bits-eq0 : goal.invariant_of-self-else-bits-eq0
invariant_of-self-else-bits-eq0 c =
    let words = c.self.inside.words in
    let p = c.args.priority in
    let top : IsGreatest words (Some p) = rw c.self.view_is c.requires in
    let within : p / 64 < length words = search arith in
    let read = get_or-set_same words (p / 64) (bit_and (get_or words (p / 64) 0) (18446744073709551615 - 1 * 2 ^ (p % 64) % 18446744073709551616)) 0 within in
    rw c.end_behind-self-inside-else-bits-eq0.ensures (
    IsEnd-behind _ (Some (p / 64 * 64 + c.ilog2.result)) (omega (arith, c.ilog2.ensures.bound))
    (greatest-in_word words _ p c.ilog2.result top (λ q. has-cleared words p q within) c.ilog2.ensures.bound
    (rw read c.ilog2.ensures.power_le) (rw read c.ilog2.ensures.next_power_gt))
    )

pub returns-then-bits-eq0 : goal.returns-then-bits-eq0
returns-then-bits-eq0 c = λ q. rw (sym c.self.view_is) (has-cleared c.self.inside.words c.args.priority q (search arith))

pub returns-else-bits-eq0 : goal.returns-else-bits-eq0
returns-else-bits-eq0 c = λ q. rw (sym c.self.view_is) (has-cleared c.self.inside.words c.args.priority q (search arith))
