use Rattle.std.proofs.Common.{Some, sym, ap, ◌∙◌}
use Rattle.mcs_table.proofs.Ended.{greatest-more}
use Rattle.mcs_chain.proofs.tally.or_greater.Goals as goal

pub returns-in-Some : goal.returns-in-Some
returns-in-Some c latencies e =
    ap Some c.max.ensures ∙ greatest-more c.in-Some.before c.args.latency latencies (sym e ∙ c.in-Some.is)
