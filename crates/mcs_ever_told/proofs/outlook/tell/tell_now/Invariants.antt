use Rattle.std.proofs.Common.{ℕ}
use Rattle.mcs_ever_told.specs.stored.Looks.{AreToldSoFar}
use Rattle.mcs_ever_told.proofs.outlook.tell.tell_now.Given as goal

abbrev pub invariant-loop-place : goal.invariant-loop-place
invariant-loop-place l =
    (horizon : ℕ) → AreToldSoFar l.look.system.now l.look.allowed.now horizon l.groups l.initial.told →
    AreToldSoFar l.look.system.now l.look.allowed.now horizon l.groups l.told
