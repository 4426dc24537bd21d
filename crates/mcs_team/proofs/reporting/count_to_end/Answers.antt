use Rattle.std.proofs.Common.{rules}
use Rattle.mcs_team.proofs.Endings.{counting-on, goes-on}
use Rattle.mcs_team.proofs.reporting.count_to_end.Goals as goal

pub rounds-preserved : goal.rounds-preserved
rounds-preserved g c = counting-on g.B.Run.system g.B.Run.horizon c.rounds.desk c.go.new.self c.rounds.invariant c.in_ok-go.ensures.later

pub rounds-smaller : goal.rounds-smaller
rounds-smaller g c = goes-on c.rounds.desk c.go.new.self (search rules) c.in_ok-go.ensures.fewer
