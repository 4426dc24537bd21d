-- The top, and what is below it.
use Rattle.std.proofs.Common.{ap, ◌∙◌, ◌++◌, suc, sym, ◌-◌}
use Rattle.mcs_origins.specs.stored.Stretches.{all_of, run}
use Rattle.mcs_origins.proofs.Runs.{below-top}
use Rattle.mcs_origins.proofs.stretch.Stretch.below.Goals as goal

pub returns : goal.returns
returns c =
    let a = c.args.self.now in
    let more = c.args.more in
    below-top a more c.requires ∙ ap (λ last. all_of (record a { more = more }) ++ run last a.step (suc (a.more - more - 1)) a.places) (sym c.at.ensures)
