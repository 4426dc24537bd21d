use Rattle.mcs_check_lines.proofs.hint_object.put_hint_object.Goals as goal

pub returns-in-NoThread-clause-ok : goal.returns-in-NoThread-clause-ok
returns-in-NoThread-clause-ok c = rw c.in-NoThread.is c.put_whole.ensures.ok

pub returns-in-Unused-clause-ok : goal.returns-in-Unused-clause-ok
returns-in-Unused-clause-ok c = rw c.in-Unused.is (c.put_unused.ensures.ok c.args.system.now)

pub returns-in-Overcommitted-clause-ok : goal.returns-in-Overcommitted-clause-ok
returns-in-Overcommitted-clause-ok c = rw c.in-Overcommitted.is (c.put_overcommitted.ensures.ok c.args.system.now)
