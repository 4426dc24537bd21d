use Rattle.mcs_ever_told.proofs.outlook.tell.tell_now.Goals as goal

pub loop-place-preserved : goal.loop-place-preserved
loop-place-preserved c = λ horizon before. c.tell_at.ensures horizon (c.loop-place.invariant horizon before)
