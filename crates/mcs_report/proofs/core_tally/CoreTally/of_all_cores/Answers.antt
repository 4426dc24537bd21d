use Rattle.std.proofs.Common.{arith}
use Rattle.std.specs.Arc.{arc_value}
use Rattle.std.proofs.lemmas.Grind.{common_steps}
use Rattle.std.proofs.lemmas.List.FromFn.{map-range_with_len_more}
use Rattle.mcs_report.specs.CoreTally.{opened_core_tally}
use Rattle.mcs_report.proofs.core_tally.CoreTally.of_all_cores.Goals as goal

pub loop-core-preserved : goal.loop-core-preserved
loop-core-preserved c =
    let more = map-range_with_len_more (λ k. opened_core_tally (arc_value c.args.places.now) k c.args.horizon) 0 c.loop-core.core c.loop-core.core (omega arith) in
    grind (arith, common_steps)
