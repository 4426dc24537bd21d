-- A thread runs at most the budget for each period that begins.
use Rattle.std.proofs.Common.{◌≡◌, ◌≢◌, ℕ, zero, suc, ◌+◌, ◌-◌, ◌*◌, ◌<◌, ◌≤◌, ◌⊎◌, inl, inr, Bool, true, false, cond, List, [], ◌∷◌, ◌++◌, length, min, max, refl, sym, ap, subst, ◌∙◌, arith}
use Rattle.std.specs.Prelude.{◌==◌, ◌&&◌, filter}
use Rattle.std.specs.List.{AllByRecursion}
use Rattle.std.proofs.lemmas.Bool.Decides.{nat_tests}
use Rattle.std.proofs.lemmas.Nat.{mul-le}
use Rattle.mcs_refills.specs.Server as server
use Rattle.mcs_control.specs.declared.config.Config.{Config}
use Rattle.mcs_control.specs.declared.config.Kind.TheVariants.{Sporadic}
use Rattle.mcs_control.specs.declared.config.Mode.{Mode}
use Rattle.mcs_control.specs.declared.config.Mode.TheVariants as modes
use Rattle.mcs_control.specs.declared.config.Order.{Order}
use Rattle.mcs_control.specs.Control.{kind_of}
use Rattle.mcs_control.specs.Context.{Context, Budget, head_moment, moment_of, max_refills_of, budget_charged, budget_unblocked, budget_ordered, woken_by, chosen_by}
use Rattle.mcs_control.specs.Context.Budget.{Dates, Slice}
use Rattle.mcs_control.specs.laws.Contexts.{IsWhole, IsBudgetOf}
use Rattle.mcs_control.proofs.Contexts.{less-sporadic}
use Rattle.mcs_system.specs.System.{System, context_part}
use Rattle.mcs_system.specs.WellFormed.{IsWellFormed}
use Rattle.mcs_core.specs.Turn.{is_for_now}
use Rattle.mcs_laws.specs.Changes.{Change, orders_of, changed, changed_by, IsSound, AreSound, GivesBudget, KeepsItsBudget}
use Rattle.mcs_laws.specs.Changes.Change.{Charged, Woken, Picked, Ordered}
use Rattle.mcs_laws.specs.Histories as told
use Rattle.mcs_laws.specs.Demand.{ticks_run, periods_begun, head_from, StretchesAreWithinDemand, OrdersBeginDemand, ThreadsRunWithinDemand}
use Rattle.mcs_laws.proofs.Histories.{budgets-kept}
use Rattle.mcs_laws.proofs.InForce.{has-the-budget, in-force, kind-kept}
use Rattle.mcs_laws.proofs.Kept.{keeps-change}
use Rattle.mcs_laws.proofs.Stretches.{never-unordered, file-in-force}
use Rattle.mcs_laws.proofs.Consumed.{charged-first, ascending-from}
use Rattle.mcs_laws.proofs.Taken.{IsDates, stays, places-fit, periods-more, periods-cover}
use Rattle.mcs_laws.proofs.Runs as runs

-- no change moves the head to an earlier date
unblocked-later : (t : ℕ) (budget : Budget) → moment_of budget ≤ moment_of (budget_unblocked t budget)
unblocked-later t (Dates []) = omega arith
unblocked-later t (Dates (date ∷ dates)) = omega arith
unblocked-later t (Slice left) = omega arith

-- an order leaves no date before its moment
ordered-first : (t budget period : ℕ) (dates : List ℕ) → 1 ≤ budget → budget ≤ period → max (server.first_date dates) t ≤ server.first_date (server.reconfigured t budget period dates)
ordered-first t budget period dates some fits = by (min (server.head_amount dates) budget)
  where
    begins : ℕ
    begins = max (server.first_date dates) t

    second : (starts amount : ℕ) → begins ≤ starts → 1 ≤ amount → begins ≤ server.first_date (server.dates_from starts amount)
    second starts zero l p = absurd (omega (arith, p))
    second starts (suc amount) l p = l

    by : (amount : ℕ) → begins ≤ server.first_date (server.dates_from begins amount ++ server.dates_from (begins + period - (budget - amount)) (budget - amount))
    by zero = second (begins + period - (budget - 0)) (budget - 0) (omega (arith, fits)) (omega (arith, some))
    by (suc amount) = omega arith

module _ (least : ℕ) where
  grows : (change : Change) (context : Context) → KeepsItsBudget context → IsSound least change context → head_moment context ≤ head_moment (changed least context change)
  grows (Charged k) context keeps sound = by context.budget keeps.whole
    where
      by : (budget : Budget) → IsWhole context.config budget → moment_of budget ≤ moment_of (budget_charged k least context.config budget)
      by (Dates []) whole = omega arith
      by (Dates (date ∷ dates)) whole = charged-first context.config.budget context.config.period (max_refills_of context.config) k least date dates whole sound.0
      by (Slice left) whole = omega arith
  grows (Woken t) context keeps sound = by context.mode
    where
      by : (mode : Mode) → head_moment context ≤ head_moment (woken_by mode t context)
      by modes.Sporadic = unblocked-later t context.budget
      by modes.Bandwidth = omega arith
  grows (Picked t) context keeps sound = by context.mode
    where
      by : (mode : Mode) → head_moment context ≤ head_moment (chosen_by mode t context)
      by modes.Sporadic = omega arith
      by modes.Bandwidth = unblocked-later t context.budget
  grows (Ordered order) context keeps sound = by context.budget
    where
      by : (budget : Budget) → moment_of budget ≤ moment_of (budget_ordered order.moment order.config budget)
      by (Dates dates) = omega (arith, ordered-first order.moment order.config.budget order.config.period dates sound.some sound.fits)
      by (Slice left) = omega arith

  all-grow : (changes : List Change) (context : Context) → KeepsItsBudget context → AreSound least changes context → head_moment context ≤ head_moment (changed_by least changes context)
  all-grow [] context keeps sound = omega arith
  all-grow (change ∷ changes) context keeps sound =
      omega (
        arith,
        grows change context keeps sound.0,
        all-grow changes (changed least context change) (keeps-change least change context keeps sound.0) sound.1,
      )

  -- so it is not before an order among them
  from-order : (t : ℕ) (changes : List Change) (context : Context) → IsDates context.budget → KeepsItsBudget context → AreSound least changes context →
      AllByRecursion (λ (order : Order). order.moment ≡ t) (orders_of changes) → orders_of changes ≢ [] → t ≤ head_moment (changed_by least changes context)
  from-order t [] context dates keeps sound at some = absurd (some refl)
  from-order t (Charged k ∷ changes) context dates keeps sound at some =
      from-order t changes (changed least context (Charged k)) (stays least (Charged k) context dates) (keeps-change least (Charged k) context keeps sound.0) sound.1 at some
  from-order t (Woken m ∷ changes) context dates keeps sound at some =
      from-order t changes (changed least context (Woken m)) (stays least (Woken m) context dates) (keeps-change least (Woken m) context keeps sound.0) sound.1 at some
  from-order t (Picked m ∷ changes) context dates keeps sound at some =
      from-order t changes (changed least context (Picked m)) (stays least (Picked m) context dates) (keeps-change least (Picked m) context keeps sound.0) sound.1 at some
  from-order t (Ordered order ∷ changes) context dates keeps sound at some =
      omega (
        arith,
        at.0,
        here context.budget dates,
        all-grow changes (changed least context (Ordered order)) (keeps-change least (Ordered order) context keeps sound.0) sound.1,
      )
    where
      here : (budget : Budget) → IsDates budget → order.moment ≤ moment_of (budget_ordered order.moment order.config budget)
      here (Dates dates) d = omega (arith, ordered-first order.moment order.config.budget order.config.period dates sound.0.some sound.0.fits)
      here (Slice left) d = absurd d

-- the orders of a moment are of that moment
module _ (system : System) (x t : ℕ) where
  at-moment : (os : List Order) → AllByRecursion (λ (order : Order). order.moment ≡ t) (filter (told.is_order_for x) (filter (is_for_now system (told.home_of system x) t) os))
  at-moment [] = tt
  at-moment (o ∷ os) = by (is_for_now system (told.home_of system x) t o) refl (o.context == x) refl (at-moment os)
    where
      others : List Order
      others = filter (is_for_now system (told.home_of system x) t) os

      Are : List Order → Type 0
      Are orders = AllByRecursion (λ (order : Order). order.moment ≡ t) orders

      moment_is : (moment c : ℕ) → (moment == t) && (c == told.home_of system x) ≡ true → moment ≡ t
      moment_is moment c e = grind (arith, nat_tests)

      by : (a : Bool) → is_for_now system (told.home_of system x) t o ≡ a → (b : Bool) → (o.context == x) ≡ b → Are (filter (told.is_order_for x) others) →
          Are (filter (told.is_order_for x) (cond a (o ∷ others) others))
      by false e b f rest = rest
      by true e false f rest = rw f rest
      by true e true f rest = rw f (moment_is o.moment (context_part system o.context).core e, rest)

module _ (system : System) (well : IsWellFormed system) (x : ℕ) (known : x < length system.threads) where
  abbrev context : ℕ
  context = runs.context system well x known

  abbrev now : ℕ → Context
  now t = told.context_before system context t

  context_known : context < length system.contexts
  context_known = runs.context_known system well x known

  -- the bound over n ticks from s on, by the context after the turn at s
  abbrev most : ℕ → ℕ → ℕ
  most s n = (now (suc s)).config.budget * periods_begun (s + n - head_moment (now (suc s))) (now (suc s)).config.period

  is_budget : (s : ℕ) → GivesBudget (now (suc s)).config
  is_budget s = (budgets-kept system well context (suc s) context_known).keeps.config

  some_period : (s : ℕ) → 1 ≤ (now (suc s)).config.period
  some_period s = omega (arith, (is_budget s).some, (is_budget s).fits)

  -- a round robin context has its period as budget
  round_robin : (s n : ℕ) → (now (suc s)).config.budget ≡ (now (suc s)).config.period → ticks_run system x (s + n) ≤ ticks_run system x s + (now (suc s)).config.budget * periods_begun n (now (suc s)).config.period
  round_robin s n e =
      omega (
        arith,
        runs.at_most_all system well x known s n,
        periods-cover n (now (suc s)).config.period (some_period s),
        ap (λ k. k * periods_begun n (now (suc s)).config.period) e,
      )

  -- more periods begin over more ticks
  budgets-more : (s a b : ℕ) → a ≤ b → (now (suc s)).config.budget * periods_begun a (now (suc s)).config.period ≤ (now (suc s)).config.budget * periods_begun b (now (suc s)).config.period
  budgets-more s a b l =
      mul-le (now (suc s)).config.budget (periods_begun a (now (suc s)).config.period) (now (suc s)).config.budget (periods_begun b (now (suc s)).config.period) (omega arith)
      (periods-more a b (now (suc s)).config.period (some_period s) l)

  module _ (s ticks : ℕ) (unordered : told.IsUnordered system context (suc s) (ticks - 1)) (less : (now (suc s)).config.budget < (now (suc s)).config.period) (dates : IsDates (now (suc s)).budget) where
    -- a tick that it runs is among the budgets of the periods begun
    while_running : (n using : ℕ) → n < ticks → runs.Runs system well x known (s + n) using → ticks_run system x (s + suc n) ≤ ticks_run system x s + most s (suc n)
    while_running n using l r =
        omega (
          arith,
          one_more,
          runs.counted system well x known s n,
          runs.used-by system well x known (s + n) using r,
          fit,
        )
      where
        kind : kind_of (now (suc s)).config ≡ Sporadic
        kind = less-sporadic (now (suc s)).config less

        none : orders_of (runs.changes system well x known (suc s) n) ≡ []
        none = runs.quiet system well x known s ticks n unordered l

        next : s + suc n ≡ suc (s + n)
        next = omega arith

        one_more : ticks_run system x (s + suc n) ≤ ticks_run system x (s + n) + 1
        one_more = rw next (omega (arith, runs.at_most_one system well x known (runs.running system well x known (suc (s + n)))))

        fit : runs.charged system well x known (suc s) n + using + 1 ≤ most s (suc n)
        fit =
            let P : ℕ → Type 0 = λ m. runs.charged system well x known (suc s) n + using + 1 ≤ (now (suc s)).config.budget * periods_begun (m - head_moment (now (suc s))) (now (suc s)).config.period in
            subst P (sym next)
            (places-fit (head_moment (now (suc s))) (now (suc s)).config.budget (now (suc s)).config.period (s + n) (runs.charged system well x known (suc s) n) using
            (runs.taken system well x known s n using kind dates none r) (is_budget s).some (some_period s) (runs.spaced system well x known s n using kind dates none r)
            (ascending-from (head_moment (now (suc s))) (runs.taken system well x known s n using kind dates none r) (runs.ascending system well x known s n using kind dates none r))
            (runs.long system well x known s n using kind dates none r) (runs.there system well x known s n using kind dates none r))

    sporadic : (n : ℕ) → n ≤ ticks → ticks_run system x (s + n) ≤ ticks_run system x s + most s n
    sporadic zero l = let e : s + 0 ≡ s = omega arith in omega (arith, ap (ticks_run system x) e)
    sporadic (suc n) l = by (sporadic n (omega (arith, l))) (runs.tick-of system well x known (s + n))
      where
        next : s + suc n ≡ suc (s + n)
        next = omega arith

        by : ticks_run system x (s + n) ≤ ticks_run system x s + most s n →
            ((using : ℕ) × runs.Runs system well x known (s + n) using) ⊎ (ticks_run system x (suc (s + n)) ≡ ticks_run system x (s + n)) → ticks_run system x (s + suc n) ≤ ticks_run system x s + most s (suc n)
        by i (inl (using, r)) = while_running n using (omega (arith, l)) r
        by i (inr still) =
            omega (
              arith,
              ap (ticks_run system x) next,
              still,
              i,
              budgets-more s (s + n - head_moment (now (suc s))) (s + suc n - head_moment (now (suc s))) (omega arith),
            )

  -- the kind of the context, by its budget
  kind_is : (t : ℕ) → (now t).config.budget < (now t).config.period → kind_of (context_part system context).config ≡ Sporadic
  kind_is t less = sym (kind-kept system well context context_known t) ∙ less-sporadic (now t).config less

  over : (s ticks : ℕ) → told.IsUnordered system context (suc s) (ticks - 1) → ticks_run system x (s + ticks) ≤ ticks_run system x s + most s ticks
  over s ticks unordered = by (now (suc s)).budget refl (has-the-budget system well context context_known (suc s)).whole.budget
    where
      by : (budget : Budget) → (now (suc s)).budget ≡ budget → IsBudgetOf (now (suc s)).config budget → ticks_run system x (s + ticks) ≤ ticks_run system x s + most s ticks
      by (Slice left) e h =
          omega (
            arith,
            round_robin s ticks h.0,
            budgets-more s ticks (s + ticks - head_moment (now (suc s))) (omega (arith, ap moment_of e)),
          )
      by (Dates dates) e h = sporadic s ticks unordered h.0 (runs.dates-at system well x known (suc s) (kind_is (suc s) h.0)) ticks (omega arith)

  -- an order at s leaves no date before s
  head-since : (s : ℕ) → told.orders_at system context s ≢ [] → kind_of (context_part system context).config ≡ Sporadic → s ≤ head_moment (now (suc s))
  head-since s some kind =
      let past = runs.history system well x known in
      omega (
        arith,
        ap head_moment (past.after s),
        from-order system.min_budget s (past.changes s) (now s) (runs.dates-at system well x known s kind) (budgets-kept system well context s context_known).keeps (past.sound s)
            (subst (AllByRecursion (λ (order : Order). order.moment ≡ s)) (past.orders s) (at-moment system context s system.orders))
            (λ e. some (past.orders s ∙ e)),
      )

  since : (s ticks : ℕ) → told.orders_at system context s ≢ [] → told.IsUnordered system context (suc s) (ticks - 1) →
      ticks_run system x (s + ticks) ≤ ticks_run system x s + (now (suc s)).config.budget * periods_begun ticks (now (suc s)).config.period
  since s ticks some unordered = by (now (suc s)).budget (has-the-budget system well context context_known (suc s)).whole.budget
    where
      by : (budget : Budget) → IsBudgetOf (now (suc s)).config budget →
          ticks_run system x (s + ticks) ≤ ticks_run system x s + (now (suc s)).config.budget * periods_begun ticks (now (suc s)).config.period
      by (Slice left) h = round_robin s ticks h.0
      by (Dates dates) h =
          omega (
            arith,
            over s ticks unordered,
            budgets-more s (s + ticks - head_moment (now (suc s))) ticks (omega (arith, head-since s some (kind_is (suc s) h.0))),
          )

  whole : told.IsNeverReconfigured system context → (t : ℕ) →
      ticks_run system x t ≤ (context_part system context).config.budget * periods_begun t (context_part system context).config.period
  whole never t =
      subst (λ (c : Config). ticks_run system x t ≤ c.budget * periods_begun t c.period) (file-in-force system well context 1 context_known never)
      (omega (
        arith,
        ap (ticks_run system x) (let e : 0 + t ≡ t = omega arith in e),
        over 0 t (never-unordered system context 1 (t - 1) never),
        budgets-more 0 (0 + t - head_moment (now 1)) t (omega arith),
      ))

pub stretches-within-demand : (system : System) → IsWellFormed system → StretchesAreWithinDemand system
stretches-within-demand system well x from ticks known unordered =
    subst (λ (c : Config). ticks_run system x (from + ticks) ≤ ticks_run system x from + c.budget * periods_begun (from + ticks - head_from system x from) c.period)
    (in-force system well (context system well x known) (context_known system well x known) (suc from))
    (over system well x known from ticks unordered)

pub orders-begin-demand : (system : System) → IsWellFormed system → OrdersBeginDemand system
orders-begin-demand system well x from ticks known some unordered =
    subst (λ (c : Config). ticks_run system x (from + ticks) ≤ ticks_run system x from + c.budget * periods_begun ticks c.period)
    (in-force system well (context system well x known) (context_known system well x known) (suc from))
    (since system well x known from ticks some unordered)

pub within-demand : (system : System) → IsWellFormed system → ThreadsRunWithinDemand system
within-demand system well x t known unordered = whole system well x known unordered t
