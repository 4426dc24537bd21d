use Rattle.std.proofs.Common.{rules, ◌≡◌, ◌∙◌, ◌<◌, ◌+◌, true, false, ap, arith, get_or, length, sym}
use Rattle.std.proofs.lemmas.Bool.Decides.{nat_tests}
use Rattle.mcs_ticks.specs.Capped.{capped}
use Rattle.mcs_system.specs.System.{thread_part}
use Rattle.mcs_check_lines.specs.Deadlines.{has_deadline}
use Rattle.mcs_check.proofs.Cores.{thread-at}
use Rattle.mcs_check.proofs.EndedRounds.{below-all, below-none, more-judged, no-more-judged, rounds_below}
use Rattle.mcs_check.proofs.Unjudging.{own-rounds}
use Rattle.mcs_check.proofs.ended.Ended.judged.Goals as goal
use Rattle.mcs_check.proofs.ended.Ended.judged.Goals.{then-part-ne0, else-part-ne0}

pub loop-number-init : goal.loop-number-init
loop-number-init c = λ system past threads_are self_is. sym (ap capped (below-none system past))

pub loop-number-preserved : goal.loop-number-preserved
loop-number-preserved c = λ system past threads_are self_is.
    let n = c.loop-number.number in
    let part = c.index-threads-number.result in
    let sum_is = c.loop-number.invariant system past threads_are self_is in
    let known : n < length system.threads = (let same = ap length threads_are in let below = c.loop-number-test.true in omega arith) in
    let at = thread-at system n part known (c.index-threads-number.is ∙ ap (λ xs. get_or xs n part) threads_are) in
    elim c.if-part-ne0.branch [
      | then-part-ne0 w ↦
          let own : has_deadline part ≡ true = grind (arith, nat_tests, w.if-part-ne0.true) in
          let some : has_deadline (thread_part system n) ≡ true = sym (ap has_deadline at) ∙ own in
          let rounds = w.of.ensures ∙ ap (λ l. get_or l n 0) self_is ∙ own-rounds (length system.threads) n past known in
          let more : w.saturating_add-judged.result ≡ capped (c.loop-number.judged + w.of.result) = search rules in
          w.judged-is ∙ more ∙ more-judged system past n c.loop-number.judged w.of.result sum_is rounds some
      | else-part-ne0 w ↦
          let own : has_deadline part ≡ false = grind (arith, nat_tests, w.if-part-ne0.false) in
          let none : has_deadline (thread_part system n) ≡ false = sym (ap has_deadline at) ∙ own in
          w.judged-is ∙ no-more-judged system past n c.loop-number.judged sum_is none
    ]

pub returns : goal.returns
returns c = λ system past threads_are self_is.
    let all : c.loop-number.number ≡ length system.threads =
    (let same = ap length threads_are in let over = c.loop-number-test.false in let end = c.loop-number.auto.number-end in omega arith) in
    c.loop-number.invariant system past threads_are self_is ∙ ap (λ n. capped (rounds_below system n past)) all ∙ ap capped (below-all system past)
