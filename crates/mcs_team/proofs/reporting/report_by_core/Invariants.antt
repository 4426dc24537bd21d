use Rattle.std.specs.Arc.{arc_value}
use Rattle.mcs_team.proofs.reporting.report_by_core.Given as goal

-- the system and the horizon of the run
abbrev pub ghosts-count_here : goal.ghosts-count_here
ghosts-count_here g a = record { system = arc_value a.system; horizon = a.horizon }
