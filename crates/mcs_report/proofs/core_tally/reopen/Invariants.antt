use Rattle.mcs_report.proofs.OnCore.{AreReopened}
use Rattle.mcs_report.proofs.core_tally.reopen.Given as goal

abbrev pub invariant-loop-account : goal.invariant-loop-account
invariant-loop-account l = AreReopened l.initial.accounts l.accounts l.account-index
