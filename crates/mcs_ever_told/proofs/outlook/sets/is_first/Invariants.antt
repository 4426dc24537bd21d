use Rattle.std.proofs.Common.{◌≡◌, false}
use Rattle.std.specs.List.{list_any, range_with_len}
use Rattle.mcs_ever_told.specs.Sets.{have_one_set}
use Rattle.mcs_ever_told.proofs.outlook.sets.is_first.Given as goal

abbrev pub invariant-loop-lesser : goal.invariant-loop-lesser
invariant-loop-lesser l = list_any (have_one_set l.sets l.core) (range_with_len 0 l.lesser) ≡ false
