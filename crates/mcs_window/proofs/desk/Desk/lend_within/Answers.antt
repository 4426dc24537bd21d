use Rattle.std.proofs.Common.{rules}
use Rattle.mcs_window.specs.Desk.{IsAwake}
use Rattle.mcs_window.proofs.Waking.{lent-some, lent-piece, lent-none}
use Rattle.mcs_window.proofs.desk.Desk.lend_within.Goals as goal

-- what is there before the core is lent
awake : (g : _) (c : goal.After-lend_now g) → IsAwake c.args.self.now c.if-not-self.self
awake g c = search rules

pub returns-clause-some : goal.returns-clause-some
returns-clause-some g c = lent-some c.args.span c.args.self.now c.if-not-self.self c.lend_now.new.self c.lend_now.result (awake g c) c.lend_now.ensures.some

pub returns-clause-piece : goal.returns-clause-piece
returns-clause-piece g c = lent-piece c.args.span c.args.self.now c.if-not-self.self c.lend_now.new.self c.lend_now.result (awake g c) c.lend_now.ensures.some c.lend_now.ensures.piece

pub returns-clause-none : goal.returns-clause-none
returns-clause-none g c = lent-none c.args.self.now c.if-not-self.self c.lend_now.new.self c.lend_now.result (awake g c) c.lend_now.ensures.none
