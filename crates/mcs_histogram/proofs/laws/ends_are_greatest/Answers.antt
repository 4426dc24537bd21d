use Rattle.mcs_histogram.proofs.Buckets.{bucket_of_end, end_is_last}
use Rattle.mcs_histogram.proofs.laws.ends_are_greatest.Goals as goal

pub returns : goal.returns
returns c value other = (bucket_of_end value, end_is_last value other)
