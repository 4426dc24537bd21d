-- A scheduling context: the configuration in force, its mode, and the budget that is left, by kind.
use Rattle.std.specs.Prelude.{ℕ, ◌+◌, Bool, true, if◌then◌else◌, List, [], Option, Some, None}
use Rattle.mcs_control.specs.declared.config.Config.{Config}
use Rattle.mcs_control.specs.declared.config.Kind.{Kind}
use Rattle.mcs_control.specs.declared.config.Kind.TheVariants.{Sporadic, RoundRobin}
use Rattle.mcs_control.specs.declared.config.Mode.{Mode}
use Rattle.mcs_control.specs.declared.config.Mode.TheVariants as modes
use Rattle.mcs_control.specs.declared.view.ContextView.{ContextView}
use Rattle.mcs_refills.specs.declared.refill.Refill.{Refill}
use Rattle.mcs_refills.specs.Server as server
use Rattle.mcs_refills.specs.Slice.{slice_charged, slice_reconfigured}
use Rattle.mcs_control.specs.Control.{kind_of}

-- the budget of a context: the dates of a sporadic server, or the rest of a round-robin slice
pub data Budget : Type 0 where
  Dates : List ℕ → Budget
  Slice : ℕ → Budget

-- its dates; a slice has no dates
abbrev pub dates_in : Budget → List ℕ
dates_in (Dates dates) = dates
dates_in (Slice left) = []

pub record Context : Type 0 where
  pub config : Config
  pub mode : Mode
  pub budget : Budget

-- a context and its capacity for refills
pub record WithRoom : Type 0 where
  pub context : Context
  pub room : ℕ

-- the maximum number of refills
abbrev pub max_refills_of : Config → ℕ
max_refills_of config = 2 + config.extra

-- the whole budget, by kind
abbrev pub first_budget : Kind → ℕ → ℕ → Budget
first_budget Sporadic at budget = Dates (server.dates_from at budget)
first_budget RoundRobin at budget = Slice budget

-- a new context, whose budget may be used from `at` on
abbrev pub new_context : Config → Mode → ℕ → Context
new_context config mode at =
    record { config = config; mode = mode; budget = first_budget (kind_of config) at config.budget }

abbrev pub budget_charged : ℕ → ℕ → Config → Budget → Budget
budget_charged k min_budget config (Dates dates) =
    Dates (server.charged_with_enough k min_budget config.period (max_refills_of config) dates)
budget_charged k min_budget config (Slice left) = Slice (slice_charged k config.budget left)

-- the context after a charge of k ticks
abbrev pub context_charged : ℕ → ℕ → Context → Context
context_charged k min_budget context =
    record context { budget = budget_charged k min_budget context.config context.budget }

abbrev pub budget_unblocked : ℕ → Budget → Budget
budget_unblocked t (Dates dates) = Dates (server.unblocked t dates)
budget_unblocked t (Slice left) = Slice left

-- the context unblocked at t
abbrev pub context_unblocked : ℕ → Context → Context
context_unblocked t context = record context { budget = budget_unblocked t context.budget }

abbrev pub woken_by : Mode → ℕ → Context → Context
woken_by modes.Sporadic t context = context_unblocked t context
woken_by modes.Bandwidth t context = context

-- its thread is woken at t: this unblocks it, unless it is in bandwidth mode
abbrev pub context_woken : ℕ → Context → Context
context_woken t context = woken_by context.mode t context

abbrev pub chosen_by : Mode → ℕ → Context → Context
chosen_by modes.Sporadic t context = context
chosen_by modes.Bandwidth t context = context_unblocked t context

-- its thread is chosen at t: this unblocks it in bandwidth mode, and otherwise changes nothing
abbrev pub context_chosen : ℕ → Context → Context
context_chosen t context = chosen_by context.mode t context

abbrev pub budget_ordered : ℕ → Config → Budget → Budget
budget_ordered t config (Dates dates) = Dates (server.reconfigured t config.budget config.period dates)
budget_ordered t config (Slice left) = Slice (slice_reconfigured config.budget left)

-- an order at t sets another configuration; the mode stays
abbrev pub context_ordered : ℕ → Config → Context → Context
context_ordered t config context = record context { config = config; budget = budget_ordered t config context.budget }

abbrev pub budget_ready : ℕ → Budget → Bool
budget_ready t (Dates dates) = server.is_ready t dates
budget_ready t (Slice left) = true

-- whether the context is ready at t
abbrev pub context_ready : ℕ → Context → Bool
context_ready t context = budget_ready t context.budget

abbrev pub amount_of : Budget → ℕ
amount_of (Dates dates) = server.head_amount dates
amount_of (Slice left) = left

-- the amount of the head
abbrev pub head_amount : Context → ℕ
head_amount context = amount_of context.budget

abbrev pub moment_of : Budget → ℕ
moment_of (Dates dates) = server.first_date dates
moment_of (Slice left) = 0

-- the moment of the head
abbrev pub head_moment : Context → ℕ
head_moment context = moment_of context.budget

-- the date with which the context's thread must wait, if the context is not ready at t
abbrev pub date_from : ℕ → Context → Option ℕ
date_from t context = if context_ready t context then None else Some (head_moment context)

-- the refills of a sporadic context; empty for round-robin
abbrev pub refills_shown : Budget → List Refill
refills_shown (Dates dates) = server.refills_of dates
refills_shown (Slice left) = []

-- the rest of a round-robin context's slice
abbrev pub left_shown : Budget → Option ℕ
left_shown (Dates dates) = None
left_shown (Slice left) = Some left

-- the view of a context: its number, its refills or the rest of its slice, and the ticks in use
abbrev pub view_of : ℕ → ℕ → Context → ContextView
view_of number using context =
    record { context = number; refills = refills_shown context.budget; left = left_shown context.budget; using = using }
