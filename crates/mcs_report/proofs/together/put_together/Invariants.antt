use Rattle.mcs_report.specs.CoreTally.{account_of}
use Rattle.mcs_report.proofs.Joined.{ArePut}
use Rattle.mcs_report.proofs.together.put_together.Given as goal

abbrev pub invariant-loop-number : goal.invariant-loop-number
invariant-loop-number l = ArePut (account_of l.places l.tallies) l.accounts l.number
