use Rattle.mcs_histogram.proofs.Ranks.{by_rank}
use Rattle.mcs_histogram.proofs.laws.percentiles_are_ranks.Goals as goal

pub returns : goal.returns
returns c percent values rising some whole same sorted = by_rank percent values rising some whole same sorted
