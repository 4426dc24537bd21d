-- The rows of a schedule as numbers.
use Rattle.std.specs.Prelude.{◌≡◌, ◌≤◌, ℕ, ◌++◌, List, ◌∷◌, length, map, Option, Some, None}
use Rattle.mcs_ticks.specs.declared.row.Row.{Row}
use Rattle.mcs_ticks.specs.declared.row.What.{What}
use Rattle.mcs_ticks.specs.declared.row.What.TheVariants as row
use Rattle.mcs_ticks.specs.declared.row.Why.{Why}
use Rattle.mcs_ticks.specs.declared.row.Why.TheVariants as why
use Rattle.mcs_c.specs.declared.numbers.NumberedRow.{NumberedRow}

-- stands where a row has no such number: 2^64 - 1
abbrev pub none : ℕ
none = 18446744073709551615

abbrev pub number_or_none : Option ℕ → ℕ
number_or_none None = none
number_or_none (Some n) = n

-- why a thread stops, in the order of the words in docs/FORMAT.md
abbrev pub reason : Why → ℕ
reason why.Spent = 0
reason why.Yield = 1
reason why.Wait = 2
reason why.Call = 3
reason why.Done = 4
reason why.Preempt = 5
reason why.Order = 6

module _ (moment core : ℕ) where
  -- a row by its kind: the part that it is of, its note, why, its value and one more
  abbrev pub numbered : ℕ → ℕ → ℕ → ℕ → ℕ → ℕ → NumberedRow
  numbered kind part note why value more =
      record { moment = moment; core = core; kind = kind; part = part; note = note; why = why; value = value; more = more }

  abbrev pub numbers_at : What → NumberedRow
  numbers_at (row.Release thread) = numbered 0 thread none none 0 0
  numbers_at (row.Run thread) = numbered 1 thread none none 0 0
  numbers_at (row.Stop thread why charged until) = numbered 2 thread none (reason why) charged (number_or_none until)
  numbers_at (row.Signal thread note badge) = numbered 3 thread note none badge 0
  numbers_at (row.Arrive note badge maker) = numbered 4 maker note none badge 0
  numbers_at (row.Wake thread note word until) = numbered 5 thread note none word (number_or_none until)
  numbers_at (row.Hold note word) = numbered 6 none note none word 0
  numbers_at (row.Got thread note word) = numbered 7 thread note none word 0
  numbers_at (row.Round thread number response) = numbered 8 thread none none number response
  numbers_at (row.Order context) = numbered 9 context none none 0 0
  numbers_at (row.Interrupt source note badge) = numbered 10 source note none badge 0

abbrev pub numbers_of : Row → NumberedRow
numbers_of r = numbers_at r.moment r.core r.what

-- these are the first rows in numbers, and the next one is of this time
abbrev pub IsCutBefore : List Row → List NumberedRow → ℕ → Type 0
IsCutBefore rows first time =
    (before : List Row) × (next : Row) × (rest : List Row)
    × (rows ≡ before ++ next ∷ rest) × (first ≡ map numbers_of before) × (time ≡ next.moment)

-- the first rows, at most so many: all of them, or as many and the next one is of this time
abbrev pub AreFirst : List Row → ℕ → List Row → Option ℕ → Type 0
AreFirst rows most first None = (first ≡ rows) × (length first ≤ most)
AreFirst rows most first (Some time) =
    (length first ≡ most) × (next : Row) × (rest : List Row) × (rows ≡ first ++ next ∷ rest) × (time ≡ next.moment)
