use Rattle.mcs_merge.proofs.Merges.{halves-merged}
use Rattle.mcs_merge.proofs.lists.+merge_lists.Goals as goal

pub returns : goal.returns
returns t c =
    halves-merged _ c.args.lists.items c.split_off.new.self.items c.in_ok-back.back.items _ _ _ _ _ c.in_ok-back.ensures.items c.in_ok-back.ensures.tail
    c.in_ok-first.ensures c.in_ok-second.ensures c.as_slice.ensures.value c.as_slice-2.ensures.value c.in_ok-rows.ensures
