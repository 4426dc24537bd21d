use Rattle.std.proofs.Common.{◌<◌, ℕ, ap, subst, arith}
use Rattle.std.specs.Prelude.{slice_index}
use Rattle.std.specs.Arc.{arc_value}
use Rattle.mcs_core.specs.Clock.{world, core_at}
use Rattle.mcs_core.specs.Quiet.{IsNextBusy}
use Rattle.mcs_window.specs.Desk.{Table, clock_of}
use Rattle.mcs_stretch.specs.Inbox.{inbox}
use Rattle.mcs_window.specs.stored.Cores.{IsHere}
use Rattle.mcs_window.proofs.Advances.{expected}
use Rattle.mcs_window.proofs.Lends.{here_at}
use Rattle.mcs_window.proofs.Skips.{next-here}
use Rattle.mcs_window.proofs.desk.Desk.next_busy.Given.{Over}
use Rattle.mcs_window.proofs.desk.Desk.next_busy.Goals as goal

known : (g : Over) (c : goal.After-index-in-Here g) → c.core.inside.0 < (arc_value c.self.inside.system).cores
known g c = let same = ap (λ (t : Table). t.system.cores) c.self.view_is in let view = c.core.view_is in omega (arith, c.requires.known)

-- the core has its state and its inbox
here : (g : Over) (c : goal.After-index-in-Here g) →
    IsHere (arc_value c.self.inside.system) c.core.inside.0 (slice_index c.self.inside.clocks c.core.inside.0) c.self.inside.clocks c.in-Here.state.value c.index-in-Here.result.now.mails
here g c =
    (here_at c.self.inside c.self.invariant c.core.inside.0 c.index.result.now c.index-in-Here.result.now c.in-Here.spare c.in-Here.state (known g c) c.in-Here.is c.index.ensures c.index-in-Here.ensures).1

pub next_busy-requires-clause-fits : goal.next_busy-requires-clause-fits
next_busy-requires-clause-fits g c = rw (c.deref.ensures, c.deref-in-Here.ensures) (here g c).state_is.fits

pub next_busy-requires-clause-going : goal.next_busy-requires-clause-going
next_busy-requires-clause-going g c = rw c.deref.ensures (here g c).state_is.whole

pub next_busy-requires-clause-expected : goal.next_busy-requires-clause-expected
next_busy-requires-clause-expected g c =
    let a = c.self.inside in
    rw (c.deref.ensures, c.deref-in-Here.ensures)
    (expected (arc_value a.system) c.self.invariant.well_formed c.core.inside.0 (slice_index a.clocks c.core.inside.0) a.clocks c.in-Here.state.value c.index-in-Here.result.now.mails (here g c).state_is (here g c).box_is)

pub returns-in-Here : goal.returns-in-Here
returns-in-Here g c =
    let a = c.self.inside in
    let s = arc_value a.system in
    let k = c.core.inside.0 in
    let d = c.before in
    let next = next-here s a.clocks k (slice_index a.clocks k) c.in-Here.state.value c.index-in-Here.result.now.mails c.next_busy.result (here g c.before).state_is (here g c.before).box_is (rw (c.deref.ensures, c.deref-in-Here.ensures) at c.next_busy.ensures.one_list) in
    let P : Table → ℕ → Type 0 = λ t n.
    IsNextBusy t.system n (clock_of t n) (inbox t.system n (clock_of t n) t.clocks) (core_at t.system (world t.system (clock_of t n)) n) c.next_busy.result in
    subst (λ n. P c.args.self.now n) c.core.view_is (subst (λ t. P t k) c.self.view_is next)
