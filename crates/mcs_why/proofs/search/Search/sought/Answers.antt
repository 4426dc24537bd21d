use Rattle.std.proofs.Common.{◌<◌, length, ap, subst, sym, ◌∙◌}
use Rattle.mcs_verdict.specs.Rounds.{activated_of}
use Rattle.mcs_verdict.specs.Misses.{word_set}
use Rattle.mcs_why.specs.declared.trail.Trail.{Trail}
use Rattle.mcs_why.proofs.search.Search.sought.Goals as goal

pub returns : goal.returns
returns c system thread number past e watched up has =
    let kept = c.self.view_is ∙ e in
    let there = subst (λ (trail : Trail). trail.thread < length system.threads) (sym kept) has in
    c.sought.ensures system thread number past kept
    (c.activated-activated.ensures system past watched up there ∙ ap (λ (trail : Trail). activated_of system trail.thread past c.args.horizon) kept)
    (c.word_set.ensures system past watched ∙ ap (λ (trail : Trail). word_set system past trail.thread) kept)
