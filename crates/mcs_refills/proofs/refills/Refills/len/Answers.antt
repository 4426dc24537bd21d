use Rattle.std.proofs.Common.{ap, length, ◌∙◌}
use Rattle.mcs_refills.specs.Server.{Server}
use Rattle.mcs_refills.proofs.Heads.{refills-shown}
use Rattle.mcs_refills.proofs.refills.Refills.len.Goals as goal

pub returns-clause-number : goal.returns-clause-number
returns-clause-number c =
    c.len.ensures ∙ ap length (refills-shown c.self.inside.line.items c.args.self.now.dates c.self.invariant.kept.apart (ap (λ (v : Server). v.dates) c.self.view_is))
