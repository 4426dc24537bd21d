use Rattle.std.proofs.Common.{◌+◌, ◌∙◌, ap, rules}
use Rattle.mcs_verdict.specs.Due.{untaken}
use Rattle.mcs_ever_found.specs.Recurs.{past_before}
use Rattle.mcs_ever_found.proofs.Endless.{abandoned-taken, abandoned-is}
use Rattle.mcs_ever_found.proofs.recurs.endless.abandoned_word.Goals as goal

pub returns-then-takes_word : goal.returns-then-takes_word
returns-then-takes_word c by from before kept =
    abandoned-taken c.args.system.now by from before c.args.after.now c.args.doings.now kept c.args.note c.requires c.takes_word.result c.takes_word.ensures (search rules)

pub returns : goal.returns
returns c by from before kept =
    abandoned-is c.args.system.now by from before c.args.after.now c.args.doings.now kept c.args.note c.requires c.takes_word.result c.takes_word.ensures (search rules)
    c.untaken.result
    (c.untaken.ensures c.args.system.now (past_before c.args.system.now (from + by)) kept.later
    ∙ ap (λ h. untaken c.args.system.now (past_before c.args.system.now (from + by)) h c.args.note) c.far.ensures)
