use Rattle.mcs_cli.proofs.output.write_rows.Given as goal

-- the system whose names the sink of lines was just given
abbrev pub ghosts-give_rows : goal.ghosts-give_rows
ghosts-give_rows g a = record { system = a.lines.now.names.now }
