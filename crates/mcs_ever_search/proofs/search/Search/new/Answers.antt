use Rattle.std.proofs.Common.{◌≡◌, ◌≤◌, ℕ, false, [], refl, ap, subst, ◌∙◌, rules}
use Rattle.std.specs.Arc.{arc_value}
use Rattle.mcs_system.specs.System.{System}
use Rattle.mcs_system.specs.WellFormed.{IsWellFormed}
use Rattle.mcs_ever_search.specs.Together as together
use Rattle.mcs_ever_search.specs.Compared.{OrdersComeBefore}
use Rattle.mcs_ever_search.specs.stored.Seen.{IsOfRows}
use Rattle.mcs_ever_search.specs.stored.Kept.{IsKeptOf}
use Rattle.mcs_ever_search.specs.declared.search.Search.TheInside.{Inside}
use Rattle.mcs_ever_search.proofs.Keeping.{opened-kept}
use Rattle.mcs_ever_search.proofs.search.Search.new.Goals as goal

pub invariant_of-result-2 : goal.invariant_of-result-2
invariant_of-result-2 c =
    let s : System = arc_value c.args.system in
    let end = c.orders_end-orders_end.result in
    let kept = c.in_ok-kept.kept in
    let seen = c.in_ok-seen.seen in
    let a : Inside = record {
      system = c.args.system;
      lockstep = c.in_ok-lockstep.lockstep;
      seen = seen;
      kept = kept;
      orders_end = end;
      driven = c.beats_for_ever-driven.result;
      horizon = c.args.horizon;
      clock = 0;
      failed = false;
    } in
    let shared : arc_value c.in_ok-shared.shared ≡ s = search rules in
    let opened : c.in_ok-lockstep.lockstep ≡ together.opening s c.args.horizon =
    c.in_ok-lockstep.ensures ∙ ap (λ (s : System). together.opening s c.args.horizon) shared in
    let parts : c.parts.result.now ≡ s = c.parts.ensures.same ∙ c.deref-3.ensures in
    let S : System → Type 0 = λ s. IsOfRows s [] [] 0 seen in
    let O : System → Type 0 = λ s. OrdersComeBefore s end in
    let F : System → Type 0 = λ s. (moment : ℕ) → OrdersComeBefore s moment → end ≤ moment in
    let K : System → Type 0 = λ s. IsKeptOf s kept in
    opened-kept a refl opened (subst S c.deref.ensures c.in_ok-seen.ensures) c.requires (subst IsWellFormed c.deref-3.ensures c.parts.ensures.well_formed)
    (subst O parts c.orders_end-orders_end.ensures.all) (subst F parts c.orders_end-orders_end.ensures.first)
    (subst K c.deref-2.ensures c.in_ok-kept.ensures.kept) c.in_ok-kept.ensures.moment
