-- Properties of a server's refills: they ascend, neither touch nor overlap, and sum to the budget.
use Rattle.std.specs.Prelude.{◌≡◌, ℕ, ◌+◌, ◌<◌, ◌≤◌, List, [], ◌∷◌, length, map, sum}
use Rattle.mcs_refills.specs.declared.refill.Refill.{Refill}
use Rattle.mcs_refills.specs.Server.{Server, refills_of, first_moment}
use Rattle.mcs_refills.specs.laws.Spacing.{IsWithin}
use Rattle.mcs_refills.specs.laws.Servers.{IsServer}

-- the moment at which a refill ends
abbrev pub end_of : Refill → ℕ
end_of refill = refill.begins + refill.amount

-- a refill ends before the next one begins, if there is one
abbrev pub IsBefore : Refill → List Refill → Type 0
IsBefore refill [] = Unit {0}
IsBefore refill (next ∷ others) = end_of refill < next.begins

-- each refill has at least 1 tick and ends before the next one begins: they ascend, and neither
-- touch nor overlap
abbrev pub AreApart : List Refill → Type 0
AreApart [] = Unit {0}
AreApart (refill ∷ others) = (1 ≤ refill.amount) × IsBefore refill others × AreApart others

-- the sum of their ticks
abbrev pub total_amount : List Refill → ℕ
total_amount refills = sum (map (λ (refill : Refill). refill.amount) refills)

-- the moment at which the last one ends
abbrev pub last_end : List Refill → ℕ
last_end [] = 0
last_end (refill ∷ []) = end_of refill
last_end (refill ∷ next ∷ others) = last_end (next ∷ others)

-- refills that sum to the budget: they are apart, are at most `max_refills`, and span at most a
-- period
pub record HaveBudget (budget period max_refills : ℕ) (refills : List Refill) : Type 0 where
  pub apart : AreApart refills
  pub all : total_amount refills ≡ budget
  pub few : length refills ≤ max_refills
  pub short : last_end refills ≤ first_moment refills + period

-- the refills of ascending dates are apart, and their amounts sum to the number of dates
abbrev pub RefillsOfDates : Type 0
RefillsOfDates =
    (low high : ℕ) (dates : List ℕ) → IsWithin low high dates → AreApart (refills_of dates)
    × (total_amount (refills_of dates) ≡ length dates)

-- hence the refills of a server in good order have its budget
abbrev pub ServersHaveTheirBudgets : Type 0
ServersHaveTheirBudgets =
    (budget : ℕ) (server : Server) → IsServer budget server
    → HaveBudget budget server.period server.max_refills (refills_of server.dates)
