use Rattle.mcs_ever_chain.proofs.Running.{skipped, skipped-rows}
use Rattle.mcs_ever_chain.proofs.run.Run.skip.Goals as goal

pub returns-clause-run : goal.returns-clause-run
returns-clause-run c = λ system is.
    skipped system c.args.self.now is c.skip.new.self c.in_ok-moment.moment c.in_ok-moment.ensures.together c.in_ok-moment.ensures.no_rows

pub returns-clause-no_rows : goal.returns-clause-no_rows
returns-clause-no_rows c = λ system is. skipped-rows system c.args.self.now is c.in_ok-moment.moment c.in_ok-moment.ensures.no_rows
