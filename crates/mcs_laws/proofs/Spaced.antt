-- The dates that a context's charges take are those of a server's steps, so they are spaced.
use Rattle.std.proofs.Common.{◌≡◌, ◌≢◌, ℕ, zero, suc, ◌<◌, ◌≤◌, Bool, true, false, cond, List, [], ◌∷◌, ◌++◌, length, take, refl, sym, ap, subst, ◌∙◌, arith}
use Rattle.std.specs.Prelude.{filter, ◌==◌}
use Rattle.std.specs.List.{AllByRecursion}
use Rattle.std.proofs.lemmas.Bool.Decides.{nat_tests}
use Rattle.mcs_refills.specs.Server.{dates_from, with_enough, charged, unblocked}
use Rattle.mcs_refills.specs.laws.Spacing.{Step, consumed, AreProper, IsSpaced}
use Rattle.mcs_refills.specs.laws.Spacing.Step.{Charge, Unblock}
use Rattle.mcs_refills.proofs.Spaces.{consumed-spaced, kept-new}
use Rattle.mcs_control.specs.declared.config.Config.{Config}
use Rattle.mcs_control.specs.declared.config.Mode.{Mode}
use Rattle.mcs_control.specs.declared.config.Mode.TheVariants as modes
use Rattle.mcs_control.specs.declared.config.Order.{Order}
use Rattle.mcs_control.specs.declared.config.Kind.TheVariants.{Sporadic, RoundRobin}
use Rattle.mcs_control.specs.Control.{kind_of}
use Rattle.mcs_control.specs.Context.{Context, Budget, max_refills_of}
use Rattle.mcs_control.specs.Context.Budget.{Dates, Slice}
use Rattle.mcs_control.specs.laws.Contexts.{IsContext, IsBudgetOf}
use Rattle.mcs_control.proofs.Contexts.{equal-round_robin}
use Rattle.mcs_system.specs.System.{System, context_part, no_context, start_of}
use Rattle.mcs_system.specs.WellFormed.{IsWellFormed}
use Rattle.mcs_core.specs.Turn.{is_for_now}
use Rattle.mcs_laws.specs.Changes.{Change, orders_of, changed_by, AreSound, taken_by}
use Rattle.mcs_laws.specs.Changes.Change.{Charged, Woken, Picked, Ordered}
use Rattle.mcs_laws.specs.Histories as told
use Rattle.mcs_laws.specs.Spaced.{ContextsAreSpaced}
use Rattle.mcs_laws.proofs.Ranges.{by_recursion, flat_map-moments-more}
use Rattle.mcs_laws.proofs.Histories.{gives-budgets}
use Rattle.mcs_laws.proofs.Kept.{changed_by-append, sound-append}
use Rattle.mcs_laws.proofs.Traces.{carry, orders_of-append}
use Rattle.mcs_laws.proofs.InForce.{has-the-budget, in-force, kind-kept}
use Rattle.mcs_laws.proofs.Stretches.{sound-all, orders-of-all}

-- charges and unblocking as steps of a server
pub steps_of : ℕ → Mode → List Change → List Step
steps_of least mode [] = []
steps_of least mode (Charged k ∷ changes) = Charge k least ∷ steps_of least mode changes
steps_of least modes.Sporadic (Woken t ∷ changes) = Unblock t ∷ steps_of least modes.Sporadic changes
steps_of least modes.Bandwidth (Woken t ∷ changes) = steps_of least modes.Bandwidth changes
steps_of least modes.Sporadic (Picked t ∷ changes) = steps_of least modes.Sporadic changes
steps_of least modes.Bandwidth (Picked t ∷ changes) = Unblock t ∷ steps_of least modes.Bandwidth changes
steps_of least mode (Ordered order ∷ changes) = steps_of least mode changes

-- changes without an order
pub record AreSteps (least : ℕ) (changes : List Change) (config : Config) (mode : Mode) (dates : List ℕ) : Type 0 where
  pub proper : AreProper (steps_of least mode changes)
  pub same : taken_by least changes (record { config = config; mode = mode; budget = Dates dates }) ≡ consumed config.period (max_refills_of config) (steps_of least mode changes) dates

no_order : (order : Order) (orders : List Order) → order ∷ orders ≡ [] → ⊥
no_order order orders e = cc

pub are_steps : (least : ℕ) (changes : List Change) (config : Config) (mode : Mode) (dates : List ℕ) → orders_of changes ≡ [] →
    AreSound least changes (record { config = config; mode = mode; budget = Dates dates }) → AreSteps least changes config mode dates
unfolding steps_of
are_steps least [] config mode dates e s = record { proper = tt; same = refl }
are_steps least (Charged k ∷ changes) config mode dates e s =
    let h = are_steps least changes config mode (with_enough least (charged k config.period (max_refills_of config) dates)) e s.1 in
    record { proper = (s.0.0, h.proper); same = ap (λ ds. take k dates ++ ds) h.same }
are_steps least (Woken t ∷ changes) config modes.Sporadic dates e s =
    let h = are_steps least changes config modes.Sporadic (unblocked t dates) e s.1 in
    record { proper = (tt, h.proper); same = h.same }
are_steps least (Woken t ∷ changes) config modes.Bandwidth dates e s =
    let h = are_steps least changes config modes.Bandwidth dates e s.1 in
    record { proper = h.proper; same = h.same }
are_steps least (Picked t ∷ changes) config modes.Sporadic dates e s =
    let h = are_steps least changes config modes.Sporadic dates e s.1 in
    record { proper = h.proper; same = h.same }
are_steps least (Picked t ∷ changes) config modes.Bandwidth dates e s =
    let h = are_steps least changes config modes.Bandwidth (unblocked t dates) e s.1 in
    record { proper = (tt, h.proper); same = h.same }
are_steps least (Ordered order ∷ changes) config mode dates e s = absurd (no_order order (orders_of changes) e)

-- the changes of all turns before a moment, one after another
module _ (system : System) (x : ℕ) (history : told.History system x) where
  abbrev changes : ℕ → List Change
  changes t = told.changes_before system x history t

  pub changes-next : (t : ℕ) → changes (suc t) ≡ changes t ++ history.changes t
  changes-next t = flat_map-moments-more history.changes t

  all-orders : ((t : ℕ) → told.orders_at system x t ≡ []) → (t : ℕ) → orders_of (changes t) ≡ []
  all-orders h zero = refl
  all-orders h (suc t) = ap orders_of (changes-next t) ∙ orders_of-append (changes t) (history.changes t) ∙ none _ _ (all-orders h t) (sym (history.orders t) ∙ h t)
    where
      none : (os us : List Order) → os ≡ [] → us ≡ [] → os ++ us ≡ []
      none os us e f = rw (e, f) refl

-- the dates that changes without an order take from any sporadic context in good order
pub stretch-spaced : (least : ℕ) (changes : List Change) (k : Context) → IsContext k → kind_of k.config ≡ Sporadic → orders_of changes ≡ [] → AreSound least changes k →
    IsSpaced k.config.budget k.config.period (taken_by least changes k)
stretch-spaced least changes k whole kind none sound = by k.budget whole.budget sound
  where
    by : (budget : Budget) → IsBudgetOf k.config budget → AreSound least changes (record { config = k.config; mode = k.mode; budget = budget }) →
        IsSpaced k.config.budget k.config.period (taken_by least changes (record { config = k.config; mode = k.mode; budget = budget }))
    by (Dates dates) h s =
        let steps = are_steps least changes k.config k.mode dates none s in
        rw steps.same
        (consumed-spaced k.config.budget k.config.period (max_refills_of k.config) (steps_of least k.mode changes) dates h.1 steps.proper)
    by (Slice left) h s =
        let bad : RoundRobin ≡ Sporadic = sym (equal-round_robin k.config h.0) ∙ kind in
        absurd (cc)

pub contexts-spaced : (system : System) → IsWellFormed system → ContextsAreSpaced system
contexts-spaced system well x history known kind from moments unordered =
    subst (λ (c : Config). IsSpaced c.budget c.period (taken_by system.min_budget (told.changes_from system x history from moments) (told.context_before system x from)))
    (in-force system well x known from)
    (stretch-spaced system.min_budget (told.changes_from system x history from moments) (told.context_before system x from)
    (has-the-budget system well x known from).whole (kind-kept system well x known from ∙ kind)
    (orders-of-all system x history from moments unordered) (sound-all system x history from moments))
