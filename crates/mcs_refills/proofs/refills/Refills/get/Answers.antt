use Rattle.std.proofs.Common.{ap, ◌∙◌}
use Rattle.std.specs.Prelude.{slice_get}
use Rattle.mcs_refills.specs.Server.{Server}
use Rattle.mcs_refills.proofs.Heads.{refills-shown}
use Rattle.mcs_refills.proofs.refills.Refills.get.Goals as goal

pub returns : goal.returns
returns c =
    c.get.ensures
    ∙ ap (λ rs. slice_get rs c.args.i) (refills-shown c.self.inside.line.items c.args.self.now.dates c.self.invariant.kept.apart (ap (λ (v : Server). v.dates) c.self.view_is))
