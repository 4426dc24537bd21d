-- When a thread is first ready or running.
use Rattle.std.specs.Prelude.{ℕ, zero, suc, ◌+◌, ◌-◌, Bool, true, false, List, Option, Some, None}
use Rattle.mcs_ticks.specs.declared.row.Row.{Row}
use Rattle.mcs_verdict.specs.declared.standing.Standing.{Standing}
use Rattle.mcs_verdict.specs.declared.standing.Standing.TheVariants.{Ready, Running}
use Rattle.mcs_verdict.specs.Standing.{standing_at, telling}

-- it has budget and waits for nothing
abbrev pub is_active : Standing → Bool
is_active Ready = true
is_active Running = true
is_active _ = false

-- the earlier tick, or this one if the thread is active
abbrev pub or_tick : Option ℕ → Bool → ℕ → Option ℕ
or_tick (Some earlier) active tick = Some earlier
or_tick None true tick = Some tick
or_tick None false tick = None

-- the first of the n ticks from `from` on in which the thread is ready or running
abbrev pub first_for : List Row → ℕ → ℕ → Option ℕ
first_for rows from zero = None
first_for rows from (suc n) = or_tick (first_for rows from n) (is_active (standing_at (from + n) rows)) (from + n)

-- the first such tick of [from, to), by the rows so far
abbrev pub first_active : ℕ → List Row → ℕ → ℕ → Option ℕ
first_active thread past from to = first_for (telling thread past) from (to - from)
