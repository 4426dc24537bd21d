-- Ticks sum to the span.
use Rattle.std.specs.Prelude.{ℕ, ◌≡◌, ◌+◌, ◌-◌, ◌<◌, List, [], ◌∷◌, map, sum}
use Rattle.std.specs.List.{range_with_len}
use Rattle.mcs_ticks.specs.declared.row.Row.{Row}
use Rattle.mcs_ticks.specs.declared.row.What.{What}
use Rattle.mcs_ticks.specs.declared.row.What.TheVariants as row
use Rattle.mcs_why.specs.Running.{ran_in, idle_in}

-- the thread that runs is one of these
abbrev pub IsKnown : ℕ → What → Type 0
IsKnown threads (row.Run x) = x < threads
IsKnown threads _ = Unit {0}

abbrev pub AreKnown : ℕ → List Row → Type 0
AreKnown threads [] = Unit {0}
AreKnown threads (r ∷ past) = IsKnown threads r.what × AreKnown threads past

-- the ticks that all threads ran on the core and its idle ticks are each tick once
abbrev pub AllTicksAreTold : Type 0
AllTicksAreTold =
    (threads core : ℕ) (past : List Row) (from to : ℕ) → AreKnown threads past →
    sum (map (λ thread. ran_in core thread past from to) (range_with_len 0 threads)) + idle_in core past from to ≡ to - from
