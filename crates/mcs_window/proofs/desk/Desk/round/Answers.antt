use Rattle.mcs_window.proofs.Going.{later-more, spent-more, skipped-later}
use Rattle.std.proofs.Common.{rules, arith}
use Rattle.mcs_window.proofs.Holding.{holds-on}
use Rattle.mcs_window.proofs.Rounds.{skipped-turns}
use Rattle.mcs_window.proofs.desk.Desk.round.Goals as goal

pub sweep-requires : goal.sweep-requires
sweep-requires g c =
    let first = skipped-later c.args.self.now c.skip_to.new.self c.requires.sound c.requires.here c.skip_to.ensures.rest c.skip_to.ensures.went in
    let holds = holds-on c.args.self.now c.skip_to.new.self c.look_ahead-moment.new.calendar c.skip_to.ensures.rest
    (λ k l. let at = c.skip_to.ensures.clocks k l in omega arith)
    c.skip_to.ensures.count c.look_ahead-moment.ensures.holds in
    record { sound = first.sound; here = first.here; holds = holds }

pub returns-then-moved-clause-more : goal.returns-then-moved-clause-more
returns-then-moved-clause-more g c = λ e.
    let skipped = skipped-turns c.args.self.now c.skip_to.new.self c.look_ahead-moment.result c.skip_to.ensures.clocks c.skip_to.ensures.rest in
    let fewer = c.in_ok-moved.ensures.fewer c.if-moved.true in
    omega (arith, skipped, fewer)

pub returns-clause-more : goal.returns-clause-more
returns-clause-more g c = λ e.
    let skipped = skipped-turns c.args.self.now c.skip_to.new.self c.look_ahead-moment.result c.skip_to.ensures.clocks c.skip_to.ensures.rest in
    let no_more = c.in_ok-moved.ensures.no_more in
    let fewer = c.in_ok-more.ensures.more e in
    omega (arith, skipped, no_more, fewer)

pub returns-in_err-moved-clause-spent : goal.returns-in_err-moved-clause-spent
returns-in_err-moved-clause-spent g c =
    let first = skipped-later c.args.self.now c.skip_to.new.self c.requires.sound c.requires.here c.skip_to.ensures.rest c.skip_to.ensures.went in
    let spent = spent-more c.args.self.now c.skip_to.new.self c.sweep.new.self first c.in_err-moved.ensures.spent in
    search rules

pub returns-then-moved-clause-later : goal.returns-then-moved-clause-later
returns-then-moved-clause-later g c =
    let first = skipped-later c.args.self.now c.skip_to.new.self c.requires.sound c.requires.here c.skip_to.ensures.rest c.skip_to.ensures.went in
    later-more c.args.self.now c.skip_to.new.self c.sweep.new.self first c.in_ok-moved.ensures.later

pub returns-in_err-more-clause-spent : goal.returns-in_err-more-clause-spent
returns-in_err-more-clause-spent g c =
    let first = skipped-later c.args.self.now c.skip_to.new.self c.requires.sound c.requires.here c.skip_to.ensures.rest c.skip_to.ensures.went in
    let second = later-more c.args.self.now c.skip_to.new.self c.sweep.new.self first c.in_ok-moved.ensures.later in
    let spent = spent-more c.args.self.now c.sweep.new.self c.run_first.new.self second c.in_err-more.ensures.spent in
    search rules

pub returns-clause-later : goal.returns-clause-later
returns-clause-later g c =
    let first = skipped-later c.args.self.now c.skip_to.new.self c.requires.sound c.requires.here c.skip_to.ensures.rest c.skip_to.ensures.went in
    let second = later-more c.args.self.now c.skip_to.new.self c.sweep.new.self first c.in_ok-moved.ensures.later in
    later-more c.args.self.now c.sweep.new.self c.run_first.new.self second c.in_ok-more.ensures.later
