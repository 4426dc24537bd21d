use Rattle.mcs_histogram.proofs.Buckets.{end-ge, end-le}
use Rattle.mcs_histogram.proofs.laws.ends_are_near.Goals as goal

pub returns : goal.returns
returns c value = (end-ge value, end-le value)
