use Rattle.std.proofs.Common.{◌≡◌, ◌∙◌, true, false, Option, length, get_or, ap, sym, arith}
use Rattle.std.specs.Prelude.{◌==◌, is_some}
use Rattle.std.proofs.lemmas.Bool.Decides.{nat_tests}
use Rattle.mcs_verdict.specs.declared.finding.Finding.{Finding}
use Rattle.mcs_check.specs.declared.thread_watch.ThreadWatch.{ThreadWatch}
use Rattle.mcs_check.proofs.Unjudging.{by-findings, flipped, own-rounds, with-rounds, without-deadline}
use Rattle.mcs_check.proofs.unjudged.is_unjudged.Goals as goal
use Rattle.mcs_check.proofs.unjudged.is_unjudged.Goals.{then-deadline-eq0-via-then-deadline-eq0, then-deadline-eq0-via-else-deadline-eq0+then-of-ne0}

pub returns-then-deadline-eq0 : goal.returns-then-deadline-eq0
returns-then-deadline-eq0 c = λ system past e up known d.
    let thread = c.args.thread in
    elim c.then-deadline-eq0.branch [
      | then-deadline-eq0-via-then-deadline-eq0 w ↦ without-deadline system past c.args.horizon thread (sym d ∙ w.if-deadline-eq0.true)
      | then-deadline-eq0-via-else-deadline-eq0+then-of-ne0 w ↦
          let rounds = w.of.ensures ∙ ap (λ (t : ThreadWatch). get_or t.ended thread 0) e ∙ own-rounds (length system.threads) thread past known in
          let some : (w.of.result == 0) ≡ false = grind (arith, nat_tests, w.if-of-ne0.true) in
          with-rounds system past c.args.horizon thread w.of.result rounds some
    ]

pub returns : goal.returns
returns c = λ system past e up known d.
    let thread = c.args.thread in
    let rounds = c.of.ensures ∙ ap (λ (t : ThreadWatch). get_or t.ended thread 0) e ∙ own-rounds (length system.threads) thread past known in
    let none : (c.of.result == 0) ≡ true = grind (arith, nat_tests, c.if-of-ne0.false) in
    let own : (c.args.deadline == 0) ≡ false = grind (arith, nat_tests, c.if-deadline-eq0.false) in
    let found = c.unended.ensures system past (ap (λ (t : ThreadWatch). t.accounts) e) up in
    by-findings system past c.args.horizon thread c.of.result c.is_none.result (ap (λ n. n == 0) (sym d) ∙ own) rounds none
    (flipped c.is_none.result _ (sym (ap (λ (o : Option Finding). is_some o) found) ∙ c.is_none.ensures))
