use Rattle.std.proofs.Common.{◌≡◌, take}
use Rattle.mcs_refills.specs.Server.{refills_of}
use Rattle.mcs_control.proofs.context.all_refills.Given as goal

abbrev pub invariant-loop-i : goal.invariant-loop-i
invariant-loop-i l = l.list.items ≡ take l.i (refills_of l.refills.dates)
