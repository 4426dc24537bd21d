use Rattle.std.proofs.Common.{rules}
use Rattle.mcs_ever.specs.Closed.{has}
use Rattle.mcs_ever_found.proofs.Watches.{findings-recur}
use Rattle.mcs_ever_found.proofs.recurs.findings.findings_recur.Goals as goal

pub returns-clause-recurs : goal.returns-clause-recurs
returns-clause-recurs c = λ yes shifts same recurs kept.
    findings-recur c.args.system.now (has c.args.group.now) shifts c.args.from c.parts-parts.ensures.well_formed recurs c.args.before.now c.args.after.now
    c.args.doings.now c.args.by same kept (c.is_near.ensures.0 (search rules)) (c.threads_recur.ensures.0 (search rules)) (c.words_recur.ensures.0 yes)
