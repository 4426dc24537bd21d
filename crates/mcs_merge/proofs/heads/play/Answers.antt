use Rattle.std.proofs.Common.{◌-◌, ◌/◌, arith}
use Rattle.mcs_merge.proofs.Trees.{IsPlaying-starts, IsPlaying-up}
use Rattle.mcs_merge.proofs.heads.play.Goals as goal

pub up-init : goal.up-init
up-init c = IsPlaying-starts _ _ _ _ c.requires.tree c.requires.core

pub up-preserved : goal.up-preserved
up-preserved c = IsPlaying-up _ _ _ _ _ _ ((c.up.place - 1) / 4) _ c.up.invariant (omega arith) (omega arith) c.least_below.ensures
