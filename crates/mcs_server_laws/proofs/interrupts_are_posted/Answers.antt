use Rattle.mcs_server_laws.proofs.Interrupts.{turns-tell, interrupts-are-posted}
use Rattle.mcs_server_laws.proofs.Schedules.{schedules-tell}
use Rattle.mcs_server_laws.proofs.interrupts_are_posted.Goals as goal

pub returns-clause-turns : goal.returns-clause-turns
returns-clause-turns c = turns-tell

pub returns-clause-schedules : goal.returns-clause-schedules
returns-clause-schedules c = schedules-tell

pub returns-clause-posted : goal.returns-clause-posted
returns-clause-posted c = interrupts-are-posted
