use Rattle.std.proofs.Common.{◌≡◌, ◌<◌, true, sym, ap, subst, ◌∙◌, arith}
use Rattle.mcs_system.specs.System.{System}
use Rattle.mcs_core.specs.State.{Fits}
use Rattle.mcs_core.specs.Clock.{core_shown, world}
use Rattle.mcs_ever_search.proofs.Images.{again-at}
use Rattle.mcs_ever_search.proofs.alike.may_stand_again.Goals as goal

pub state-requires-clause-known : goal.state-requires-clause-known
state-requires-clause-known c =
    let P : System → Type 0 = λ s. c.loop-core.core < s.cores in
    subst P (sym c.requires.same) (omega (arith, c.requires.many, c.loop-core-test.true))

pub may_be_again-requires-clause-fits : goal.may_be_again-requires-clause-fits
may_be_again-requires-clause-fits c =
    let P : System → Type 0 = λ s. Fits s c.state.result.now in
    subst P c.requires.same c.state.ensures.fits

pub may_be_again-requires-clause-going : goal.may_be_again-requires-clause-going
may_be_again-requires-clause-going c = c.state.ensures.whole

pub returns-then-not-may_be_again : goal.returns-then-not-may_be_again
returns-then-not-may_be_again c = λ kept shifts all later.
    let s = c.args.system.now in
    let core = c.loop-core.core in
    let own : c.is_own.result ≡ true = cc in
    let is = c.state.ensures.core_is ∙ ap (λ (s : System). core_shown s (world s c.args.lockstep.now.clock) core) c.requires.same in
    let again = again-at s kept c.args.lockstep.now.clock c.args.group.now shifts c.args.before.now core c.index-before-core.result c.state.result.now.core all
    (omega (arith, c.requires.many, c.loop-core-test.true)) (sym c.is_own.ensures ∙ own) later c.index-before-core.is is in
    let yes = c.may_be_again.ensures (shifts core) again in
    cc
