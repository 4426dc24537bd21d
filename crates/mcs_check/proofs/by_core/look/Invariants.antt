use Rattle.std.proofs.Common.{[], true}
use Rattle.mcs_core.specs.Clock.{clock}
use Rattle.mcs_check_words.specs.declared.asked.Show.TheVariants.{Findings}
use Rattle.mcs_check.specs.stored.Pages.{PutsLines}
use Rattle.mcs_check.specs.stored.Rounds.{IsReady}
use Rattle.mcs_check.specs.stored.Rows.{lines_in}
use Rattle.mcs_check.proofs.Cores.{rounds_left}
use Rattle.mcs_check.proofs.by_core.look.Given as goal

-- the system, and the time before which findings were passed on
abbrev pub ghosts-take_round : goal.ghosts-take_round
ghosts-take_round g a = record { system = a.system.now; allowed = a.allowed.now; from = a.cores.reached }

abbrev pub invariant-rounds : goal.invariant-rounds
invariant-rounds g l =
    let system = l.initial.lines.system.now in
    IsReady system l.allowed l.horizon l.cores
    × PutsLines g.T.Target.contents g.T.Target.has_failed l.initial.lines
    (lines_in system l.allowed l.initial.lines.format Findings [] (clock system l.cores.reached).rows) true l.lines

abbrev pub decreases-rounds : goal.decreases-rounds
decreases-rounds g l = rounds_left l.initial.lines.system.now l.allowed l.horizon l.cores
