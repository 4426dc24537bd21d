use Rattle.std.proofs.Common.{arith}
use Rattle.mcs_report.proofs.OnCore.{reopened-none, reopened-more, reopened-all}
use Rattle.mcs_report.proofs.core_tally.reopen.Goals as goal

pub loop-account-init : goal.loop-account-init
loop-account-init c = reopened-none c.args.accounts.now

pub loop-account-preserved : goal.loop-account-preserved
loop-account-preserved c =
    reopened-more c.args.accounts.now c.loop-account.accounts c.loop-account.account-index c.new.result c.account-item.result c.loop-account.invariant
    (omega (arith, c.loop-account-test.true, c.loop-account.auto.accounts))
    c.new.ensures

pub returns : goal.returns
returns c =
    reopened-all c.args.accounts.now c.loop-account.accounts c.loop-account.account-index c.loop-account.invariant
    (omega (arith, c.loop-account-test.false, c.loop-account.auto.accounts))
