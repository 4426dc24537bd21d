use Rattle.mcs_script.proofs.Equal.{script_decides}
use Rattle.mcs_script.proofs.script.ScriptPartialEq.eq.Goals as goal

pub returns-clause-same : goal.returns-clause-same
returns-clause-same c =
    rw (c.eq.ensures, c.self.view_is, c.other.view_is) (script_decides c.args.self.now c.args.other.now)
