use Rattle.std.proofs.Common.{◌<◌, sym, ap, subst, ◌∙◌}
use Rattle.mcs_system.specs.System.{System}
use Rattle.mcs_core.specs.State.{Fits}
use Rattle.mcs_core.specs.Clock.{core_shown, world}
use Rattle.mcs_ever_search.proofs.snapshot.image.Goals as goal

pub state-requires-clause-known : goal.state-requires-clause-known
state-requires-clause-known c =
    let P : System → Type 0 = λ s. c.args.core < s.cores in
    subst P (sym c.requires.same) c.requires.known

pub new-requires-clause-fits : goal.new-requires-clause-fits
new-requires-clause-fits c =
    let P : System → Type 0 = λ s. Fits s c.state.result.now in
    subst P c.requires.same c.state.ensures.fits

pub new-requires-clause-going : goal.new-requires-clause-going
new-requires-clause-going c = c.state.ensures.whole

pub returns : goal.returns
returns c =
    c.in_ok-image.ensures ∙ c.state.ensures.core_is
    ∙ ap (λ (s : System). core_shown s (world s c.args.lockstep.now.clock) c.args.core) c.requires.same
