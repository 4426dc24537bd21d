use Rattle.std.proofs.Common.{◌≡◌, ℕ, ◌<◌, false, [], None, sym, ap, subst, ◌∙◌, rules}
use Rattle.std.specs.Arc.{arc_value}
use Rattle.mcs_system.specs.System.{System}
use Rattle.mcs_core.specs.Clock.{core_at, world}
use Rattle.mcs_core.specs.Quiet.{IsNextBusy}
use Rattle.mcs_ever_search.specs.Compared.{Compared}
use Rattle.mcs_ever_search.specs.Sampling.{IsAtRest}
use Rattle.mcs_ever_search.proofs.Keeping.{clock-is, mails-are, settled-clock}
use Rattle.mcs_ever_search.proofs.search.Search.is_at_rest.Goals as goal

pub returns-clause-rest : goal.returns-clause-rest
returns-clause-rest c = λ yes.
    let a = c.self.inside in
    let s = arc_value a.system in
    let P : Compared → Type 0 = λ t. t.failed ≡ false in
    let going : a.failed ≡ false = subst P (sym c.self.view_is) c.requires in
    let S : System → Type 0 = λ s. (core : ℕ) → core < s.cores → IsNextBusy s core c.settle.new.self.clock [] (core_at s (world s c.settle.new.self.clock) core) None in
    let T : ℕ → Type 0 = λ t. (core : ℕ) → core < s.cores → IsNextBusy s core t [] (core_at s (world s t) core) None in
    let none : a.seen.under_way ≡ [] = search rules in
    let Q : Compared → Type 0 = λ t. IsAtRest t.system t.clock in
    subst Q c.self.view_is
    (record {
      mails = ap (λ (t : ℕ). (world s t).mails) (sym (clock-is a c.self.invariant going)) ∙ sym (mails-are a c.self.invariant going (c.under_way_is_told.ensures s c.self.invariant.well_formed)) ∙ none;
      cores = subst T (settled-clock a c.self.invariant going c.settle.new.self c.settle.ensures) (subst S c.deref.ensures (c.are_idle.ensures yes));
    })
