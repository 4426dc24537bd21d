use Rattle.std.proofs.Common.{length, arith}
use Rattle.mcs_report.specs.CoreTally.{account_of}
use Rattle.mcs_report.proofs.Joined.{put-none, put-more, put-all}
use Rattle.mcs_report.proofs.together.put_together.Goals as goal

pub loop-number-init : goal.loop-number-init
loop-number-init c = put-none (account_of c.args.places.now c.args.tallies.now) c.args.accounts.now

pub account_of-requires : goal.account_of-requires
account_of-requires c = omega (arith, c.loop-number-test.true, c.requires)

pub loop-number-preserved : goal.loop-number-preserved
loop-number-preserved c =
    put-more (account_of c.args.places.now c.args.tallies.now) c.loop-number.accounts c.loop-number.number c.account_of.result c.loop-number.invariant
    (omega (arith, c.loop-number-test.true, c.loop-number.auto.accounts))
    c.account_of.ensures

pub returns : goal.returns
returns c =
    put-all (account_of c.args.places.now c.args.tallies.now) c.loop-number.accounts c.loop-number.number (length c.args.places.now.threads) c.loop-number.invariant
    (omega (arith, c.requires, c.loop-number-test.false))
    (omega (arith, c.requires, c.loop-number.auto.accounts))
