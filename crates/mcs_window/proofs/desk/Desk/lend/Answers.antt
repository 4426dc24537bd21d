use Rattle.std.proofs.Common.{◌≤◌, ◌+◌, ◌-◌, ◌^◌, ap, arith}
use Rattle.mcs_window.specs.Desk.{Table}
use Rattle.mcs_window.proofs.Waking.{lent-all, piece-all}
use Rattle.mcs_window.proofs.desk.Desk.lend.Goals as goal

-- more moments than there are
long : (g : _) (c : goal.After-lend_within g) → c.args.self.now.horizon + 1 ≤ 2 ^ 64 - 1
long g c =
    let same = ap (λ (t : Table). t.horizon) c.self.view_is in
    let horizon = c.self.invariant.horizon in
    omega arith

pub returns-clause-some : goal.returns-clause-some
returns-clause-some g c = lent-all (2 ^ 64 - 1) c.args.self.now c.lend_within.new.self c.lend_within.result (long g c) c.lend_within.ensures.some

pub returns-clause-piece : goal.returns-clause-piece
returns-clause-piece g c =
    piece-all (2 ^ 64 - 1) c.args.self.now c.lend_within.new.self c.lend_within.result (long g c) c.lend_within.ensures.same_run.horizon_is c.lend_within.ensures.piece
