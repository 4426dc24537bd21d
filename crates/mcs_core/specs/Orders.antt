-- The orders of a core: those for its contexts, by moment, and in file order within one moment.
use Rattle.std.specs.Prelude.{◌≡◌, ℕ, ◌<◌, ◌≤◌, Bool, true, ◌==◌, nat_lt, nat_le, if◌then◌else◌, List, [], ◌∷◌, length, filter, fold, Option, Some, None, IsOk}
use Rattle.std.specs.List.{AllByRecursion}
use Rattle.mcs_control.specs.Control.{checked, kind_of}
use Rattle.mcs_control.specs.declared.config.Order.{Order}
use Rattle.mcs_system.specs.System.{System, context_part}

-- an order inserted by moment, after those of its moment
abbrev pub with_order : List Order → Order → List Order
with_order [] order = order ∷ []
with_order (first ∷ others) order =
    if nat_lt order.moment first.moment then order ∷ first ∷ others else first ∷ with_order others order

abbrev pub by_moment : List Order → List Order
by_moment orders = fold with_order [] orders

abbrev pub is_for_core : System → ℕ → Order → Bool
is_for_core system c order = (context_part system order.context).core == c

abbrev pub orders_of : System → ℕ → List Order
orders_of system c = by_moment (filter (is_for_core system c) system.orders)

-- those that are yet to come at t
abbrev pub to_come : ℕ → List Order → List Order
to_come t orders = filter (λ order. nat_le t order.moment) orders

-- whether the order is of the moment t
abbrev pub is_of : ℕ → Order → Bool
is_of t order = order.moment == t

-- the orders of the moment t
abbrev pub due_now : ℕ → List Order → List Order
due_now t orders = filter (is_of t) orders

-- the first, if its moment has come at t, and the rest after it is taken
abbrev pub first_due : ℕ → List Order → Option Order
first_due t [] = None
first_due t (order ∷ orders) = if nat_le order.moment t then Some order else None

abbrev pub without_first : ℕ → List Order → List Order
without_first t [] = []
without_first t (order ∷ orders) = if nat_le order.moment t then orders else order ∷ orders

-- by moment, and none before t
abbrev pub AreByMoment : ℕ → List Order → Type 0
AreByMoment t [] = Unit {0}
AreByMoment t (order ∷ orders) = (t ≤ order.moment) × AreByMoment order.moment orders

-- an order for a context of core c that keeps its kind, with a configuration that passes its check
pub record IsPlanned (system : System) (c : ℕ) (order : Order) : Type 0 where
  pub accepted : IsOk (checked system.min_budget order.config)
  pub same_kind : kind_of order.config ≡ kind_of (context_part system order.context).config
  pub known : order.context < length system.contexts
  pub home : is_for_core system c order ≡ true

abbrev pub ArePlanned : System → ℕ → List Order → Type 0
ArePlanned system c orders = AllByRecursion (IsPlanned system c) orders
