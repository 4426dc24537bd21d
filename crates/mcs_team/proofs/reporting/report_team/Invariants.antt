use Rattle.mcs_team.proofs.reporting.report_team.Given as goal

-- the system and the horizon of the desk that was just made
abbrev pub ghosts-count_beside : goal.ghosts-count_beside
ghosts-count_beside g a = record { system = a.desk.system; horizon = a.desk.horizon }
