use Rattle.mcs_stretch.proofs.Merging as merging
use Rattle.mcs_stretch.proofs.laws.rows_merge_so_far.Goals as goal

pub returns : goal.returns
returns c = merging.rows-so_far
