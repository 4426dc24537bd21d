use Rattle.std.proofs.Common.{◌∙◌}
use Rattle.mcs_why.proofs.Spans.{told_open, told_sought}
use Rattle.mcs_why.proofs.trail.Trail.sought.Goals as goal

pub returns-in-None : goal.returns-in-None
returns-in-None c system thread number past e is word =
    c.open_if.ensures
    ∙ told_sought system thread number past c.args.horizon c.args.self.now c.open.result e c.in-None.is
    (c.open.ensures ∙ told_open system thread number past c.args.horizon c.args.self.now c.args.activated c.args.set e is word)
