use Rattle.std.proofs.Common.{◌<◌, length, get_or, ◌∙◌, ap, sym, arith}
use Rattle.std.proofs.lemmas.List.{get_or_default}
use Rattle.mcs_core.specs.Core.{no_state}
use Rattle.mcs_ever.specs.Later.{later_thread}
use Rattle.mcs_ever_again.proofs.Rounds.{threads-many, threads-later-at, threads-all-later}
use Rattle.mcs_ever_again.proofs.image.threads.thread_lags.Goals as goal

pub returns-then-before-after : goal.returns-then-before-after
returns-then-before-after c = λ past since rounds same.
    grind (arith, c.if-before-after.true, threads-many since rounds c.args.before.now c.args.after.now same)

pub returns-in_default : goal.returns-in_default
returns-in_default c = λ past since rounds same.
    let here : c.loop-i.i < length c.args.before.now = c.loop-i-test.true in
    let there : c.loop-i.i < length c.args.after.now = grind (arith, c.if-before-after.false) in
    c.in_default.ensures (since c.loop-i.i) (rounds c.loop-i.i)
    (c.index-after-i.is
    ∙ get_or_default c.args.after.now c.loop-i.i c.index-after-i.result no_state there
    ∙ threads-later-at since rounds c.args.before.now c.args.after.now same c.loop-i.i here
    ∙ ap (later_thread (since c.loop-i.i) (rounds c.loop-i.i))
    (get_or_default c.args.before.now c.loop-i.i no_state c.index-before-i.result here ∙ sym c.index-before-i.is))

pub returns : goal.returns
returns c = λ past.
    threads-all-later (λ thread. get_or c.loop-i.since.items thread past) (λ thread. get_or c.loop-i.rounds.items thread 0)
    c.args.before.now c.args.after.now (grind (arith, c.if-before-after.false))
    (λ k within. c.loop-i.invariant.later past k (omega (arith, within, c.loop-i-test.false)))
