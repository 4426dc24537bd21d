-- How long a thread waits for its budget.
use Rattle.std.specs.Prelude.{ℕ, ◌-◌, max, ◌==◌, if◌then◌else◌, List, map, fold, Some}
use Rattle.mcs_ticks.specs.declared.row.Row.{Row}
use Rattle.mcs_ticks.specs.declared.row.What.{What}
use Rattle.mcs_ticks.specs.declared.row.What.TheVariants as row

-- the ticks that the thread waits for its budget from this time, if the row stops it until a date;
-- else 0
abbrev pub wait_in : ℕ → ℕ → What → ℕ
wait_in thread moment (row.Stop x cause charged (Some until)) = if x == thread then until - moment else 0
wait_in thread moment _ = 0

abbrev pub wait_after : ℕ → Row → ℕ
wait_after thread r = wait_in thread r.moment r.what

-- the longest wait of the thread in these rows; 0 if it never waits
abbrev pub longest_of : ℕ → List Row → ℕ
longest_of thread rows = fold max 0 (map (wait_after thread) rows)
