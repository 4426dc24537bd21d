use Rattle.mcs_merge.proofs.Calls.{takes-merged, takes-prefix}
use Rattle.mcs_merge.proofs.laws.calls_are_merged.Goals as goal

pub returns : goal.returns
returns c = record { so_far = takes-merged; prefix = takes-prefix }
