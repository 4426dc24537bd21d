use Rattle.mcs_check_forever.proofs.Clean.{clean-is-never-late}
use Rattle.mcs_check_forever.proofs.laws.clean_is_never_late.Goals as goal

pub returns : goal.returns
returns c = clean-is-never-late
