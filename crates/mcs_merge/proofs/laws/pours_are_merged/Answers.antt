use Rattle.mcs_merge.proofs.Pours.{pours-merged, pours-all}
use Rattle.mcs_merge.proofs.laws.pours_are_merged.Goals as goal

pub returns : goal.returns
returns c = record { pours = pours-merged; all = pours-all }
