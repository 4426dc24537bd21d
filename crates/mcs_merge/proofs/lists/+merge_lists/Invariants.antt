use Rattle.std.proofs.Common.{length}
use Rattle.mcs_merge.proofs.lists.+merge_lists.Given as goal

abbrev pub decreases-merge_lists : goal.decreases-merge_lists
decreases-merge_lists l = length l.lists.items
