use Rattle.mcs_window.proofs.Rounds.{settled-later}
use Rattle.mcs_window.proofs.desk.Desk.run_busy.Goals as goal

pub returns-then-lt-clause-later : goal.returns-then-lt-clause-later
returns-then-lt-clause-later g c = settled-later c.args.self.now c.run_noted.new.self _ _ c.requires.ready.sound c.requires.ready.here c.in_ok-run_noted.ensures.ok c.in_ok-run_noted.ensures.went
