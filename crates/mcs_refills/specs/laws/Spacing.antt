-- The dates that the charges of a server take, with no order between: a date and the one a whole
-- budget later are at least a period apart.
use Rattle.std.specs.Prelude.{◌≡◌, ℕ, ◌+◌, ◌<◌, ◌≤◌, List, [], ◌∷◌, ◌++◌, map, take, drop, length, slice_index}
use Rattle.mcs_refills.specs.Server.{charged_with_enough, unblocked}

-- each date is at most the one in the same place of the other list, and the lists are equally long
abbrev pub IsUnder : List ℕ → List ℕ → Type 0
IsUnder [] [] = Unit {0}
IsUnder [] (v ∷ vs) = ⊥
IsUnder (u ∷ us) [] = ⊥
IsUnder (u ∷ us) (v ∷ vs) = (u ≤ v) × IsUnder us vs

-- ascending dates, from `low` on and before `high`
abbrev pub IsWithin : ℕ → ℕ → List ℕ → Type 0
IsWithin low high [] = Unit {0}
IsWithin low high (date ∷ dates) = (low ≤ date) × (date < high) × IsWithin (date + 1) high dates

-- one date for each tick of the budget; they ascend and span less than a period
pub record AreKept (budget period : ℕ) (dates : List ℕ) : Type 0 where
  pub all : length dates ≡ budget
  pub low : ℕ
  pub within : IsWithin low (low + period) dates

-- the dates after a charge of k, in the order of the dates before it: first the unused ones, then
-- the returned ones
abbrev pub after_use : ℕ → ℕ → List ℕ → List ℕ
after_use k period dates = drop k dates ++ map (λ date. date + period) (take k dates)

-- a step of a server: a charge with `min_budget` at the head, or unblocking
pub data Step : Type 0 where
  Charge : ℕ → ℕ → Step
  Unblock : ℕ → Step

abbrev pub stepped : ℕ → ℕ → Step → List ℕ → List ℕ
stepped period max_refills (Charge k min_budget) dates = charged_with_enough k min_budget period max_refills dates
stepped period max_refills (Unblock t) dates = unblocked t dates

-- the dates that a step uses
abbrev pub used_by : Step → List ℕ → List ℕ
used_by (Charge k min_budget) dates = take k dates
used_by (Unblock t) dates = []

-- the dates that the charges take, in order
abbrev pub consumed : ℕ → ℕ → List Step → List ℕ → List ℕ
consumed period max_refills [] dates = []
consumed period max_refills (step ∷ steps) dates =
    used_by step dates ++ consumed period max_refills steps (stepped period max_refills step dates)

-- a charge uses at least 1 tick
abbrev pub IsProper : Step → Type 0
IsProper (Charge k min_budget) = 1 ≤ k
IsProper (Unblock t) = Unit {0}

abbrev pub AreProper : List Step → Type 0
AreProper [] = Unit {0}
AreProper (step ∷ steps) = IsProper step × AreProper steps

-- the date a whole budget later is at least a period later
abbrev pub IsSpaced : ℕ → ℕ → List ℕ → Type 0
IsSpaced budget period dates =
    (j : ℕ) → j + budget < length dates → slice_index dates j + period ≤ slice_index dates (j + budget)

-- the spacing law: unblocking moves no date to before its place, and a charge moves none to before
-- its place after use
abbrev pub StepsSpace : Type 0
StepsSpace =
    (budget period max_refills k min_budget t : ℕ) (dates : List ℕ) → AreKept budget period dates → 1 ≤ k →
    IsUnder dates (unblocked t dates)
    × IsUnder (after_use k period dates) (charged_with_enough k min_budget period max_refills dates)

-- hence the dates that charges take are spaced
abbrev pub ConsumedAreSpaced : Type 0
ConsumedAreSpaced =
    (budget period max_refills : ℕ) (steps : List Step) (dates : List ℕ) → AreKept budget period dates → AreProper steps
    →
    IsSpaced budget period (consumed period max_refills steps dates)
