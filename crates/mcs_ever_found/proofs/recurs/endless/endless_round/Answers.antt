use Rattle.std.proofs.Common.{◌+◌, ◌∙◌, ap, subst, rules}
use Rattle.mcs_verdict.specs.Findings.{UpTo}
use Rattle.mcs_verdict.specs.Misses.{unended}
use Rattle.mcs_ever_found.specs.Period.{far}
use Rattle.mcs_ever_found.specs.Recurs.{past_before}
use Rattle.mcs_ever_found.proofs.Endless.{endless-ends, endless-is, up-far}
use Rattle.mcs_ever_found.proofs.recurs.endless.endless_round.Goals as goal

pub returns-then-ends_round : goal.returns-then-ends_round
returns-then-ends_round c by from before near kept =
    endless-ends c.args.system.now by from before c.args.after.now c.args.doings.now kept c.args.thread c.requires c.ends_round.result c.ends_round.ensures (search rules)

pub returns : goal.returns
returns c by from before near kept =
    c.only_overdue.ensures
    ∙ endless-is c.args.system.now by from before c.args.after.now c.args.doings.now kept c.args.thread c.requires c.ends_round.result c.ends_round.ensures (search rules)
    c.unended.result
    (c.unended.ensures c.args.system.now (past_before c.args.system.now (from + by)) kept.later
    (rw c.far.ensures (up-far c.args.system.now by from before c.args.after.now c.args.doings.now kept c.parts-parts.ensures.well_formed near))
    ∙ ap (λ h. unended c.args.system.now (past_before c.args.system.now (from + by)) h c.args.thread) c.far.ensures)
