use Rattle.std.specs.Arc.{arc_value}
use Rattle.mcs_team.proofs.to_sink.flow_team.Given as goal

-- the system and the horizon of the plan
abbrev pub ghosts-flow_beside : goal.ghosts-flow_beside
ghosts-flow_beside g a = record { system = arc_value a.plan.now.system; horizon = a.plan.now.horizon }
