-- The time slice of a round-robin context: the remaining ticks of its budget.
use Rattle.std.specs.Prelude.{◌≡◌, ℕ, ◌+◌, ◌-◌, ◌*◌, ◌^◌, ◌≤◌, min, ◌==◌, if◌then◌else◌, List, [], ◌∷◌, sum}

-- a charge of k: the rest, or the full budget if no ticks remain
abbrev pub slice_charged : ℕ → ℕ → ℕ → ℕ
slice_charged k budget left = if left - k == 0 then budget else left - k

-- an order: the rest is capped at the new budget
abbrev pub slice_reconfigured : ℕ → ℕ → ℕ
slice_reconfigured budget left = min left budget

-- a slice: its budget and its remaining ticks
pub record TimeSlice : Type 0 where
  pub budget : ℕ
  pub left : ℕ

-- the rest is at least 1 and at most the budget
pub record IsSlice (budget left : ℕ) : Type 0 where
  pub some : 1 ≤ left
  pub within : left ≤ budget
  pub in_range : budget ≤ 2 ^ 40

abbrev pub full_slice : ℕ → TimeSlice
full_slice budget = record { budget = budget; left = budget }

abbrev pub charged_slice : ℕ → TimeSlice → TimeSlice
charged_slice k slice = record { budget = slice.budget; left = slice_charged k slice.budget slice.left }

abbrev pub reconfigured_slice : ℕ → TimeSlice → TimeSlice
reconfigured_slice budget slice = record { budget = budget; left = slice_reconfigured budget slice.left }

-- each charge takes at least 1 tick and at most the rest
abbrev pub AreWithin : List ℕ → ℕ → ℕ → Type 0
AreWithin [] budget left = Unit {0}
AreWithin (k ∷ ks) budget left = (1 ≤ k) × (k ≤ left) × AreWithin ks budget (slice_charged k budget left)

-- the rest after charges
abbrev pub left_after_all : List ℕ → ℕ → ℕ → ℕ
left_after_all [] budget left = left
left_after_all (k ∷ ks) budget left = left_after_all ks budget (slice_charged k budget left)

-- how often the charges exhaust the slice
abbrev pub times_used_up : List ℕ → ℕ → ℕ → ℕ
times_used_up [] budget left = 0
times_used_up (k ∷ ks) budget left =
    if left - k == 0 then times_used_up ks budget (slice_charged k budget left) + 1
    else times_used_up ks budget (slice_charged k budget left)

-- from a full slice on, the charges sum to the exhausted budgets plus the used part of the last
-- one: from one full slice to the next they sum to the budget
abbrev pub SlicesAreSpent : Type 0
SlicesAreSpent =
    (budget : ℕ) (ks : List ℕ) → AreWithin ks budget budget → sum ks + left_after_all ks budget budget
    ≡ budget + times_used_up ks budget budget * budget
