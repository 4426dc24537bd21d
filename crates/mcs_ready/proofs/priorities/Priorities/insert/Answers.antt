use Rattle.std.proofs.Common.{sym, arith}
use Rattle.mcs_ready.proofs.Marks.{has-set}
use Rattle.mcs_ready.proofs.Greatest.{IsEnd-set}
use Rattle.mcs_ready.proofs.priorities.Priorities.insert.Goals as goal

pub invariant_of-self : goal.invariant_of-self
invariant_of-self c =
    rw (c.max-self-inside.ensures, c.from.ensures) (
    IsEnd-set _ _ c.args.priority c.self.inside.end c.self.invariant (search arith) (λ q. has-set c.self.inside.words c.args.priority q (search arith))
    )

pub returns : goal.returns
returns c = λ q. rw (sym c.self.view_is) (has-set c.self.inside.words c.args.priority q (search arith))
