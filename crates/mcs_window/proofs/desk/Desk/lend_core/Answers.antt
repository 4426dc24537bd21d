use Rattle.std.proofs.Common.{◌≡◌, ◌-◌, ◌^◌, ap, arith}
use Rattle.mcs_window.specs.Desk.{Table, past_of, past_within}
use Rattle.mcs_window.proofs.Waking.{within-all}
use Rattle.mcs_window.proofs.desk.Desk.lend_core.Goals as goal

-- more moments than there are are no bound
unbound : (g : _) (c : goal.After-lend_core_within g) → past_within c.args.self.now (2 ^ 64 - 1) c.args.core ≡ past_of c.args.self.now c.args.core
unbound g c =
    let same = ap (λ (t : Table). t.horizon) c.self.view_is in
    let horizon = c.self.invariant.horizon in
    within-all c.args.self.now (2 ^ 64 - 1) c.args.core (omega arith)

pub returns-clause-some : goal.returns-clause-some
returns-clause-some g c = rw (unbound g c) at c.lend_core_within.ensures.some

pub returns-clause-piece : goal.returns-clause-piece
returns-clause-piece g c = rw (unbound g c) at c.lend_core_within.ensures.piece
