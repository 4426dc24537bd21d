use Rattle.std.proofs.Common.{◌-◌, length}
use Rattle.mcs_ever_again.proofs.Grouped.{IsSo}
use Rattle.mcs_ever_again.proofs.under_way.later.are_later.Given as goal

abbrev pub invariant-loop-mail : goal.invariant-loop-mail
invariant-loop-mail l = IsSo l.system l.group l.by l.before l.after l.compared l.seen

abbrev pub decreases-loop-mail : goal.decreases-loop-mail
decreases-loop-mail l = length l.after.mails.items - l.seen
