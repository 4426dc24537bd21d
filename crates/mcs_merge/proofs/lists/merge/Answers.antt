use Rattle.mcs_merge.specs.Lists.{rows_of_lists}
use Rattle.mcs_merge.proofs.Merges.{merged-is}
use Rattle.mcs_merge.proofs.lists.merge.Goals as goal

pub returns : goal.returns
returns c = merged-is (rows_of_lists c.args.lists.items) c.in_ok-rows.rows.items c.in_ok-rows.ensures
