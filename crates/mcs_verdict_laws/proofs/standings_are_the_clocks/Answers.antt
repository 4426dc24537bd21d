use Rattle.mcs_verdict_laws.proofs.Standings.{standings}
use Rattle.mcs_verdict_laws.proofs.standings_are_the_clocks.Goals as goal

pub returns : goal.returns
returns c = standings
