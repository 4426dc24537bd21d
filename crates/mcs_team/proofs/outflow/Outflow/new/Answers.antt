use Rattle.std.proofs.Common.{◌≡◌, ℕ, [], replicate, rules, subst}
use Rattle.mcs_merge.specs.Parts.{AreHeld}
use Rattle.mcs_team.proofs.Opened.{waits-first}
use Rattle.mcs_team.proofs.outflow.Outflow.new.Goals as goal

pub returns-clause-waits : goal.returns-clause-waits
returns-clause-waits g c = λ out fits.
    let cores : c.parts.result.now.cores ≡ c.args.system.now.cores = search rules in
    let none : c.in_ok-pasts.pasts.items ≡ replicate c.args.system.now.cores c.args.at = search rules in
    waits-first g.W.Part.Part.holds c.args.system.now c.args.horizon c.args.at c.in_ok-pasts.pasts.items c.in_ok-merger.merger out none c.requires.at
    (subst (λ (n : ℕ). AreHeld g.W.Part.Part.holds out c.in_ok-merger.merger (replicate n [])) cores
    (c.in_ok-merger.ensures.held out (replicate c.parts.result.now.cores []) (c.in_ok-parts.ensures.held out fits)))
