use Rattle.std.proofs.Common.{◌<◌, List, sym, subst, arith}
use Rattle.std.specs.Prelude.{All}
use Rattle.mcs_mail.specs.declared.mail.Mail.{Mail}
use Rattle.mcs_system.specs.System.{System}
use Rattle.mcs_core.specs.Clock.{core_at, world}
use Rattle.mcs_core.specs.State.{Fits, IsExpected}
use Rattle.mcs_ever_search.proofs.Resting.{never-busy}
use Rattle.mcs_ever_search.proofs.rest.is_busy.Goals as goal

pub state-state-requires-clause-known : goal.state-state-requires-clause-known
state-state-requires-clause-known c =
    let P : System → Type 0 = λ s. c.args.core < s.cores in
    subst P (sym c.requires.same) c.requires.known

pub next_busy-requires-clause-fits : goal.next_busy-requires-clause-fits
next_busy-requires-clause-fits c =
    let P : System → Type 0 = λ s. Fits s c.state-state.result.now in
    subst P c.requires.same c.state-state.ensures.fits

pub next_busy-requires-clause-going : goal.next_busy-requires-clause-going
next_busy-requires-clause-going c = c.state-state.ensures.whole

pub next_busy-requires-clause-expected : goal.next_busy-requires-clause-expected
next_busy-requires-clause-expected c =
    let P : List Mail → Type 0 = λ mails. All (IsExpected c.args.system.now c.state-state.result.now) mails in
    subst P (sym c.requires.none) (λ k d l. absurd (omega arith))

pub returns-in-None : goal.returns-in-None
returns-in-None c = λ idle.
    let own = c.args.lockstep.now.system in
    let at = c.state-state.ensures in
    never-busy c.args.system.now own c.args.core c.args.lockstep.now.clock c.state-state.result.now.number c.state-state.result.now.clock c.args.no_mail.now.mails
    c.next_busy.result c.requires.same at.number_is at.clock_is c.requires.none c.in-None.is
    (c.next_busy.ensures.one_list (core_at own (world own c.args.lockstep.now.clock) c.args.core) at.core_is)
