use Rattle.mcs_control.proofs.Configs.{passed-configs}
use Rattle.mcs_control.proofs.laws.passed_configs_are_in_range.Goals as goal

pub returns : goal.returns
returns c = passed-configs
