use Rattle.mcs_stretch.proofs.Idle.{idle-passes}
use Rattle.mcs_stretch.proofs.laws.idle_time_passes.Goals as goal

pub returns : goal.returns
returns c = idle-passes
