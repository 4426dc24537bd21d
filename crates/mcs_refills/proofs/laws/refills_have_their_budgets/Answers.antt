use Rattle.mcs_refills.proofs.Apart.{refills-of-dates, servers-have-their-budgets}
use Rattle.mcs_refills.proofs.laws.refills_have_their_budgets.Goals as goal

pub returns-clause-dates : goal.returns-clause-dates
returns-clause-dates c = refills-of-dates

pub returns-clause-servers : goal.returns-clause-servers
returns-clause-servers c = servers-have-their-budgets
