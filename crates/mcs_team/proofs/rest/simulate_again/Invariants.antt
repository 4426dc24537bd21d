use Rattle.std.specs.Arc.{arc_value}
use Rattle.mcs_team.proofs.rest.simulate_again.Given as goal

-- the system and the horizon of the plan
abbrev pub ghosts-rest_from : goal.ghosts-rest_from
ghosts-rest_from g a = record { system = arc_value a.plan.now.system; horizon = a.plan.now.horizon }
