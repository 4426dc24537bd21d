-- The history of a context: all that turns do to it, from the opening on.
use Rattle.std.specs.Prelude.{◌≡◌, ◌≢◌, ℕ, suc, ◌<◌, ◌+◌, Bool, ◌==◌, ◌&&◌, nat_le, nat_lt, if◌then◌else◌, List, [], ◌∷◌, filter, flat_map, length, All, Option, Some, None}
use Rattle.std.specs.List.{range_with_len}
use Rattle.mcs_ticks.specs.declared.row.What.{What}
use Rattle.mcs_ticks.specs.declared.row.What.TheVariants as row
use Rattle.mcs_control.specs.declared.config.Order.{Order}
use Rattle.mcs_control.specs.Context.{Context, head_amount, new_context}
use Rattle.mcs_system.specs.System.{System, context_part, thread_part, start_of}
use Rattle.mcs_core.specs.Core.{Core, context_of}
use Rattle.mcs_system.specs.declared.part.ContextPart.{ContextPart}
use Rattle.mcs_core.specs.declared.standing.Chosen.{Chosen}
use Rattle.mcs_core.specs.Turn.{is_for_now}
use Rattle.mcs_core.specs.Clock.{world, core_at, turn_of}
use Rattle.mcs_laws.specs.Changes.{Change, charges_of, wakes_of, choices_of, orders_of, GivesBudget, KeepsItsBudget, changed_by, AreSound}

-- whether the order is for this context
abbrev pub is_order_for : ℕ → Order → Bool
is_order_for context order = order.context == context

module _ (system : System) where
  -- the ticks charged to the context by a row: those of the stop of its thread
  abbrev pub charge_told : ℕ → What → List ℕ
  charge_told context (row.Stop thread why k until) =
      if (thread_part system thread).context == context then k ∷ [] else []
  charge_told context (row.Release thread) = []
  charge_told context (row.Run thread) = []
  charge_told context (row.Signal thread note badge) = []
  charge_told context (row.Arrive note badge maker) = []
  charge_told context (row.Wake thread note word until) = []
  charge_told context (row.Hold note word) = []
  charge_told context (row.Got thread note word) = []
  charge_told context (row.Round thread number response) = []
  charge_told context (row.Order ordered) = []
  charge_told context (row.Interrupt source note badge) = []

  abbrev pub charges_told : ℕ → List What → List ℕ
  charges_told context rows = flat_map (charge_told context) rows

  -- the moment t of a row that wakes the context's thread, and of a row that chooses it
  abbrev pub wake_told : ℕ → ℕ → What → List ℕ
  wake_told context t (row.Wake thread note word until) =
      if (thread_part system thread).context == context then t ∷ [] else []
  wake_told context t (row.Stop thread why k until) = []
  wake_told context t (row.Release thread) = []
  wake_told context t (row.Run thread) = []
  wake_told context t (row.Signal thread note badge) = []
  wake_told context t (row.Arrive note badge maker) = []
  wake_told context t (row.Hold note word) = []
  wake_told context t (row.Got thread note word) = []
  wake_told context t (row.Round thread number response) = []
  wake_told context t (row.Order ordered) = []
  wake_told context t (row.Interrupt source note badge) = []

  abbrev pub wakes_told : ℕ → ℕ → List What → List ℕ
  wakes_told context t rows = flat_map (wake_told context t) rows

  abbrev pub choice_told : ℕ → ℕ → What → List ℕ
  choice_told context t (row.Run thread) =
      if (thread_part system thread).context == context then t ∷ [] else []
  choice_told context t (row.Wake thread note word until) = []
  choice_told context t (row.Stop thread why k until) = []
  choice_told context t (row.Release thread) = []
  choice_told context t (row.Signal thread note badge) = []
  choice_told context t (row.Arrive note badge maker) = []
  choice_told context t (row.Hold note word) = []
  choice_told context t (row.Got thread note word) = []
  choice_told context t (row.Round thread number response) = []
  choice_told context t (row.Order ordered) = []
  choice_told context t (row.Interrupt source note badge) = []

  abbrev pub choices_told : ℕ → ℕ → List What → List ℕ
  choices_told context t rows = flat_map (choice_told context t) rows

  -- the core of a context before a moment, and the context itself
  abbrev pub home_of : ℕ → ℕ
  home_of context = (context_part system context).core

  abbrev pub home_before : ℕ → ℕ → Core
  home_before context t = core_at system (world system t) (home_of context)

  abbrev pub context_before : ℕ → ℕ → Context
  context_before context t = context_of (home_before context t) context

  -- the charges in the rows of its core's turn at t
  abbrev pub charges_at : ℕ → ℕ → List ℕ
  charges_at context t = charges_told context (turn_of system (home_of context) t).rows

  -- the moments of its thread's wakes in these rows, and of its choices: t for each
  abbrev pub wakes_at : ℕ → ℕ → List ℕ
  wakes_at context t = wakes_told context t (turn_of system (home_of context) t).rows

  abbrev pub choices_at : ℕ → ℕ → List ℕ
  choices_at context t = choices_told context t (turn_of system (home_of context) t).rows

  -- the orders for the context at t, in file order
  abbrev pub orders_at : ℕ → ℕ → List Order
  orders_at context t = filter (is_order_for context) (filter (is_for_now system (home_of context) t) system.orders)

  -- the orders of the file for the context, over this many moments from `from` on
  abbrev pub orders_within : ℕ → ℕ → ℕ → List Order
  orders_within context from moments =
      filter
      (λ (order : Order). is_order_for context order && (nat_le from order.moment && nat_lt order.moment (from + moments)))
      system.orders

  -- no order for the context comes at these moments; orders at other moments do not matter
  abbrev pub IsUnordered : ℕ → ℕ → ℕ → Type 0
  IsUnordered context from moments = orders_within context from moments ≡ []

  -- the context at the opening
  abbrev pub opening_context : ℕ → Context
  opening_context context =
      let part = context_part system context in new_context part.config part.mode (start_of system.threads context)

  -- all that turns do to the context, by moment: its charges are those in the rows, each at least a
  -- tick and at most what the head then has; its wakes and choices are those of its thread, at
  -- their moment, and its mode says which of them unblock it; its orders are those of the system
  pub record History (context : ℕ) : Type 0 where
    pub changes : ℕ → List Change
    pub opening : context_before context 0 ≡ opening_context context
    pub after : (t : ℕ) → context_before context (suc t)
        ≡ changed_by system.min_budget (changes t) (context_before context t)
    pub sound : (t : ℕ) → AreSound system.min_budget (changes t) (context_before context t)
    pub charges : (t : ℕ) → charges_at context t ≡ charges_of (changes t)
    pub wakes : (t : ℕ) → wakes_at context t ≡ wakes_of (changes t)
    pub choices : (t : ℕ) → choices_at context t ≡ choices_of (changes t)
    pub orders : (t : ℕ) → orders_at context t ≡ orders_of (changes t)

  -- the changes of all turns before a moment
  abbrev pub changes_before : (context : ℕ) → History context → ℕ → List Change
  changes_before context history past = flat_map history.changes (range_with_len 0 past)

  -- the changes of the turns over this many moments from `from` on
  abbrev pub changes_from : (context : ℕ) → History context → ℕ → ℕ → List Change
  changes_from context history from moments = flat_map history.changes (range_with_len from moments)

  -- the running thread has used less than the head, if it is bound to the context
  abbrev pub UsesLess : ℕ → Option Chosen → Context → Type 0
  UsesLess number None context = Unit {0}
  UsesLess number (Some chosen) context =
      (thread_part system chosen.thread).context ≡ number → chosen.using < head_amount context

  -- each configuration gives a budget: at least a tick, and at most the period
  pub record GivesBudgets : Type 0 where
    pub contexts : All (λ (part : ContextPart). GivesBudget part.config) system.contexts
    pub orders : All (λ (order : Order). GivesBudget order.config) system.orders

  -- at each moment each context has the budget in force, and its running thread has not used all of
  -- it
  pub record HasItsBudget (context t : ℕ) : Type 0 where
    pub keeps : KeepsItsBudget (context_before context t)
    pub uses : UsesLess context (home_before context t).running (context_before context t)

  abbrev pub ContextsHaveTheirBudgets : Type 0
  ContextsHaveTheirBudgets = (context t : ℕ) → context < length system.contexts → HasItsBudget context t

  abbrev pub ContextsHaveHistories : Type 0
  ContextsHaveHistories = (context : ℕ) → context < length system.contexts → History context

  -- no order names the context
  abbrev pub IsNeverReconfigured : ℕ → Type 0
  IsNeverReconfigured context = All (λ (order : Order). order.context ≢ context) system.orders
