use Rattle.mcs_core.proofs.Quiet.{quiet-ran}
use Rattle.mcs_laws.proofs.laws.quiet_turns_only_count.Goals as goal

pub returns : goal.returns
returns c = λ queue system number n clock core box quiet. quiet-ran queue system number n clock core box quiet
