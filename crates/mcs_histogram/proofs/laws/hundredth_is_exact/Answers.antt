use Rattle.mcs_histogram.proofs.Percentiles.{told-hundredth}
use Rattle.mcs_histogram.proofs.laws.hundredth_is_exact.Goals as goal

pub returns : goal.returns
returns c values = told-hundredth values
