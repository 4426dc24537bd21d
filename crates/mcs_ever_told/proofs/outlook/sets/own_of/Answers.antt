use Rattle.std.proofs.Common.{false, rules}
use Rattle.std.proofs.lemmas.List.FromFn.{fill_by_all}
use Rattle.mcs_ever_told.specs.Sets.{have_one_set}
use Rattle.mcs_ever_told.proofs.outlook.sets.own_of.Goals as goal

pub returns : goal.returns
returns c = fill_by_all (have_one_set c.args.sets.now c.args.core) c.loop-other.own 64 false c.loop-other.invariant.0 (search rules)
