use Rattle.std.proofs.Common.{◌≡◌}
use Rattle.mcs_team.proofs.shared_desk.SharedDesk.catch_up.Given as goal

abbrev pub invariant-loop-number : goal.invariant-loop-number
invariant-loop-number g l = l.self.desk ≡ l.initial.self.desk
