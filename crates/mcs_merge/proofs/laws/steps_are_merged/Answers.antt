use Rattle.mcs_merge.proofs.Adds.{adds-merged, begins-merged, ends-merged}
use Rattle.mcs_merge.proofs.laws.steps_are_merged.Goals as goal

pub returns : goal.returns
returns c = record { begins = begins-merged; adds = adds-merged; ends = ends-merged }
