use Rattle.mcs_histogram.proofs.Ranks.{all_counted}
use Rattle.mcs_histogram.proofs.laws.all_are_counted.Goals as goal

pub returns : goal.returns
returns c limit values in_range few = all_counted limit values in_range few
