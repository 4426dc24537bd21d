-- Who ran on a core, tick by tick, by the rows so far, the latest first.
use Rattle.std.specs.Prelude.{ℕ, zero, suc, ◌+◌, ◌-◌, Bool, true, false, ◌==◌, ◌&&◌, nat_le, if◌then◌else◌, List, [], ◌∷◌, filter, Option, Some, None}
use Rattle.mcs_ticks.specs.declared.row.Row.{Row}
use Rattle.mcs_ticks.specs.declared.row.What.{What}
use Rattle.mcs_ticks.specs.declared.row.What.TheVariants as row

-- whether the row decides who runs from then on
abbrev pub is_turn : What → Bool
is_turn (row.Run x) = true
is_turn (row.Stop x cause charged until) = true
is_turn _ = false

-- the thread that runs from then on
abbrev pub runner : What → Option ℕ
runner (row.Run x) = Some x
runner _ = None

-- the rows of a core that decide who runs
abbrev pub turns : ℕ → List Row → List Row
turns core past = filter (λ r. r.core == core && is_turn r.what) past

-- who runs in tick t, by the latest such row up to t
abbrev pub runner_at : ℕ → List Row → Option ℕ
runner_at t [] = None
runner_at t (r ∷ past) = if nat_le r.moment t then runner r.what else runner_at t past

abbrev pub is_thread : ℕ → Option ℕ → Bool
is_thread thread None = false
is_thread thread (Some x) = x == thread

abbrev pub is_nobody : Option ℕ → Bool
is_nobody None = true
is_nobody (Some x) = false

-- the number of the n ticks from `from` on whose runner is such
abbrev pub ticks_for : (Option ℕ → Bool) → List Row → ℕ → ℕ → ℕ
ticks_for is rows from zero = 0
ticks_for is rows from (suc n) = (if is (runner_at (from + n) rows) then 1 else 0) + ticks_for is rows from n

-- the ticks of [from, to) that a thread ran on the core, and those in which the core was idle
abbrev pub ran_in : ℕ → ℕ → List Row → ℕ → ℕ → ℕ
ran_in core thread past from to = ticks_for (is_thread thread) (turns core past) from (to - from)

abbrev pub idle_in : ℕ → List Row → ℕ → ℕ → ℕ
idle_in core past from to = ticks_for is_nobody (turns core past) from (to - from)

-- whether a row is one of the core in [from, to]
abbrev pub is_within : ℕ → ℕ → ℕ → Row → Bool
is_within core from to r = r.core == core && nat_le from r.moment && nat_le r.moment to
