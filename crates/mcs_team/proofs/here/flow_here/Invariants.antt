use Rattle.mcs_team.proofs.here.flow_here.Given as goal

-- the system and the horizon of the desk that was just made
abbrev pub ghosts-flow_desk : goal.ghosts-flow_desk
ghosts-flow_desk g a = record { system = a.desk.system; horizon = a.desk.horizon }
