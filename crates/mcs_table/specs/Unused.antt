-- Budget that was never used, by the rows so far, the latest first.
use Rattle.std.specs.Prelude.{ℕ, suc, ◌+◌, ◌-◌, ◌*◌, ◌/◌, ◌%◌, min, Bool, ◌==◌, if◌then◌else◌, List, [], ◌∷◌, Option, Some, None}
use Rattle.std.specs.List.{list_any}
use Rattle.mcs_ticks.specs.declared.row.Row.{Row}
use Rattle.mcs_control.specs.declared.config.Config.{Config}
use Rattle.mcs_control.specs.declared.config.Order.{Order}
use Rattle.mcs_system.specs.declared.part.ThreadPart.{ThreadPart}
use Rattle.mcs_system.specs.System.{System, context_part}
use Rattle.mcs_verdict.specs.Stood.{stood_in}

-- whether an order names the context
abbrev pub is_ordered : ℕ → List Order → Bool
is_ordered context orders = list_any (λ order. order.context == context) orders

-- The maximum number of ticks that a context can let run before the horizon: its budget for each
-- whole period from time 0 on, and for the period that the horizon cuts off the minimum of its
-- budget and its ticks before the horizon.
abbrev pub most_before : ℕ → Config → ℕ
most_before horizon config = config.budget * (horizon / config.period) + min config.budget (horizon % config.period)

-- the ticks that the threads of the context ran, from thread number n on
abbrev pub ran_from : ℕ → List Row → ℕ → ℕ → List ThreadPart → ℕ
ran_from horizon past context n [] = 0
ran_from horizon past context n (part ∷ parts) =
    (if part.context == context then (stood_in n past 0 horizon).running else 0) + ran_from horizon past context (suc n) parts

-- the maximum that the context could let run before the horizon, less what its threads ran; there
-- is no such figure if an order names it, which changes its budget
abbrev pub unused_of : System → ℕ → List Row → ℕ → Option ℕ
unused_of system horizon past context =
    if is_ordered context system.orders then None
    else Some (most_before horizon (context_part system context).config - ran_from horizon past context 0 system.threads)
