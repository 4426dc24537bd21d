use Rattle.mcs_histogram.proofs.Buckets.{bucket-mono}
use Rattle.mcs_histogram.proofs.laws.buckets_rise.Goals as goal

pub returns : goal.returns
returns c less more h = bucket-mono less more h
