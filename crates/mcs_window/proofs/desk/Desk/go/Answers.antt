use Rattle.mcs_window.proofs.Going.{later-more, spent-more}
use Rattle.std.proofs.Common.{rules, inr, arith}
use Rattle.mcs_window.proofs.desk.Desk.go.Goals as goal

pub returns-then-kept-enough-clause-enough : goal.returns-then-kept-enough-clause-enough
returns-then-kept-enough-clause-enough g c = inr (let kept = c.kept.ensures in let test = c.if-kept-enough.true in omega arith)

pub returns-in_err-round-clause-spent : goal.returns-in_err-round-clause-spent
returns-in_err-round-clause-spent g c =
    let spent = spent-more c.args.self.now c.rounds.self c.round.new.self c.rounds.invariant.later c.in_err-round.ensures.spent in
    search rules

pub returns-then-kept-enough-clause-later : goal.returns-then-kept-enough-clause-later
returns-then-kept-enough-clause-later g c =
    let later = later-more c.args.self.now c.rounds.self c.round.new.self c.rounds.invariant.later c.in_ok-round.ensures.later in
    search rules

pub rounds-preserved : goal.rounds-preserved
rounds-preserved g c =
    let later = later-more c.args.self.now c.rounds.self c.round.new.self c.rounds.invariant.later c.in_ok-round.ensures.later in
    search rules

pub returns-clause-later : goal.returns-clause-later
returns-clause-later g c =
    let later = later-more c.args.self.now c.rounds.self c.round.new.self c.rounds.invariant.later c.in_ok-round.ensures.later in
    search rules
