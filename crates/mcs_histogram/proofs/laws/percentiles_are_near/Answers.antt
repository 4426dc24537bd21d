use Rattle.mcs_histogram.proofs.Percentiles.{told-near}
use Rattle.mcs_histogram.proofs.laws.percentiles_are_near.Goals as goal

pub returns : goal.returns
returns c percent values value e = told-near percent values value e
