use Rattle.std.proofs.Common.{◌-◌}
use Rattle.mcs_why.specs.Running.{turns}
use Rattle.mcs_why.proofs.Sums.{told_once, all_known, known_turns}
use Rattle.mcs_why.proofs.laws.all_ticks_are_told.Goals as goal

pub returns : goal.returns
returns c threads core past from to known =
    told_once threads (turns core past) from (to - from) (all_known threads (turns core past) (known_turns threads core past known))
