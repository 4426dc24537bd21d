use Rattle.std.proofs.Common.{ℕ, refl, sym, subst}
use Rattle.std.specs.Prelude.{Option}
use Rattle.mcs_system.specs.System.{System}
use Rattle.mcs_core.specs.Busy.{IsFirst, GoesOnAfter}
use Rattle.mcs_core.specs.Core.{Core}
use Rattle.mcs_core.specs.State.{State}
use Rattle.mcs_core.specs.stored.Ends.{IsEnd}
use Rattle.mcs_core.specs.stored.Sound.Phase.{Between}
use Rattle.mcs_core.proofs.Ends.{unspent}
use Rattle.mcs_core.proofs.Firsts.{first-both}
use Rattle.mcs_core.proofs.Systems.{one-each}
use Rattle.mcs_core.proofs.state.CoreState.ends.Goals as goal

pub next_end-requires-clause-unspent : goal.next_end-requires-clause-unspent
next_end-requires-clause-unspent c =
    let fits = rw (← c.self.view_is) at c.requires.fits in
    let going = rw (← c.self.view_is) at c.requires.going in
    rw c.parts.ensures.same
    (unspent c.args.system.now c.self.inside.number c.self.inside.clock (one-each c.args.system.now c.parts.ensures.well_formed) Between c.self.inside.local refl (fits.sound going))

pub returns : goal.returns
returns c =
    let clock : ℕ = c.self.inside.clock in
    let core : Core = c.self.inside.local in
    let Q : System → Type 0 = λ parts. IsFirst clock (λ n. GoesOnAfter parts n core.running core) c.next_end.result in
    let P : State → Type 0 = λ s. IsEnd c.args.system.now s.clock s.core c.or.result in
    let E : Option ℕ → Type 0 = λ o. IsEnd c.args.system.now clock core o in
    subst P c.self.view_is (subst E (sym c.or.ensures)
    (first-both clock _ _ c.next_end.result c.next_choice-better.result (subst Q c.parts.ensures.same c.next_end.ensures) c.next_choice-better.ensures))
