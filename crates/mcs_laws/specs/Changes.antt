-- The changes of a context over time, and what they preserve.
use Rattle.std.specs.Prelude.{ℕ, ◌≤◌, List, [], ◌∷◌, ◌++◌, flat_map, fold}
use Rattle.mcs_control.specs.declared.config.Config.{Config}
use Rattle.mcs_control.specs.declared.config.Order.{Order}
use Rattle.mcs_refills.specs.laws.Spacing.Step.{Charge}
use Rattle.mcs_control.specs.laws.Contexts.{IsWhole, used_from}
use Rattle.mcs_control.specs.Context.{Context, context_charged, context_woken, context_chosen, context_ordered, head_amount}

-- a charge of some ticks, a wake or a choice of its thread at a moment, or an order
pub data Change : Type 0 where
  Charged : ℕ → Change
  Woken : ℕ → Change
  Picked : ℕ → Change
  Ordered : Order → Change

-- the charges of changes, the moments of wakes and of choices, and the orders
abbrev pub charge_of : Change → List ℕ
charge_of (Charged k) = k ∷ []
charge_of (Woken t) = []
charge_of (Picked t) = []
charge_of (Ordered order) = []

abbrev pub charges_of : List Change → List ℕ
charges_of changes = flat_map charge_of changes

abbrev pub wake_of : Change → List ℕ
wake_of (Charged k) = []
wake_of (Woken t) = t ∷ []
wake_of (Picked t) = []
wake_of (Ordered order) = []

abbrev pub wakes_of : List Change → List ℕ
wakes_of changes = flat_map wake_of changes

abbrev pub choice_of : Change → List ℕ
choice_of (Charged k) = []
choice_of (Woken t) = []
choice_of (Picked t) = t ∷ []
choice_of (Ordered order) = []

abbrev pub choices_of : List Change → List ℕ
choices_of changes = flat_map choice_of changes

abbrev pub order_of : Change → List Order
order_of (Charged k) = []
order_of (Woken t) = []
order_of (Picked t) = []
order_of (Ordered order) = order ∷ []

abbrev pub orders_of : List Change → List Order
orders_of changes = flat_map order_of changes

-- the configuration gives a budget: at least a tick, and at most the period
pub record GivesBudget (config : Config) : Type 0 where
  pub some : 1 ≤ config.budget
  pub fits : config.budget ≤ config.period

-- the context has the budget in force
pub record KeepsItsBudget (context : Context) : Type 0 where
  pub config : GivesBudget context.config
  pub whole : IsWhole context.config context.budget

-- with this minimum of ticks at the head
module _ (min_budget : ℕ) where
  -- the context after a change, and after several
  abbrev pub changed : Context → Change → Context
  changed context (Charged k) = context_charged k min_budget context
  changed context (Woken t) = context_woken t context
  changed context (Picked t) = context_chosen t context
  changed context (Ordered order) = context_ordered order.moment order.config context

  abbrev pub changed_by : List Change → Context → Context
  changed_by changes context = fold changed context changes

  -- a charge takes at least a tick and at most what the head has, and an order gives a budget
  abbrev pub IsSound : Change → Context → Type 0
  IsSound (Charged k) context = (1 ≤ k) × (k ≤ head_amount context)
  IsSound (Woken t) context = Unit {0}
  IsSound (Picked t) context = Unit {0}
  IsSound (Ordered order) context = GivesBudget order.config

  abbrev pub AreSound : List Change → Context → Type 0
  AreSound [] context = Unit {0}
  AreSound (change ∷ changes) context = IsSound change context × AreSound changes (changed context change)

  -- the dates that the charges take, in order: each takes the first dates that the context then has
  abbrev pub dates_taken : Change → Context → List ℕ
  dates_taken (Charged k) context = used_from (Charge k min_budget) context.budget
  dates_taken (Woken t) context = []
  dates_taken (Picked t) context = []
  dates_taken (Ordered order) context = []

  abbrev pub taken_by : List Change → Context → List ℕ
  taken_by [] context = []
  taken_by (change ∷ changes) context = dates_taken change context ++ taken_by changes (changed context change)
