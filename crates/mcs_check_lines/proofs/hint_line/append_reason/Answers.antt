use Rattle.mcs_check_lines.proofs.hint_line.append_reason.Goals as goal

pub returns-in-Unused-clause-ok : goal.returns-in-Unused-clause-ok
returns-in-Unused-clause-ok c = rw c.in-Unused.is (c.append_unused.ensures.ok c.args.system.now)

pub returns-in-Overcommitted-clause-ok : goal.returns-in-Overcommitted-clause-ok
returns-in-Overcommitted-clause-ok c = rw c.in-Overcommitted.is (c.append_overcommitted.ensures.ok c.args.system.now)
