-- Which rows a sink was given.
use Rattle.std.specs.Prelude.{◌≡◌, ◌⊎◌, ◌++◌, ◌+◌, ◌<◌, max, ℕ, Bool, true, false, List, [], ◌∷◌}
use Rattle.std.specs.List.{FoldsTo}
use Rattle.mcs_ticks.specs.declared.row.Row.{Row}

-- how a sink takes a row: the sink before, the row, whether it took it, and the sink after
module _ {S : Type 0} (takes : S → Row → Bool → S → Type 0) where
  -- it took all of these rows, in order
  abbrev pub Given : S → List Row → S → Type 0
  Given s rows t = FoldsTo (λ a row b. takes a row true b) s rows t

  -- it took a first part of these rows, possibly empty, and then refused the next
  abbrev pub GivenUntil : S → List Row → S → Type 0
  GivenUntil s [] t = ⊥
  GivenUntil s (row ∷ rows) t = takes s row false t ⊎ ((m : S) × takes s row true m × GivenUntil m rows t)

  -- it took a first part of these rows: possibly empty, possibly all
  abbrev pub GivenSome : S → List Row → S → Type 0
  GivenSome s rows t = (first : List Row) × (rest : List Row) × (rows ≡ first ++ rest) × Given s first t

  -- after these rows its size was still below `most`, or at most its first size
  abbrev pub IsShortAfter : (S → ℕ) → ℕ → S → List Row → Type 0
  IsShortAfter size most s rows = (m : S) × Given s rows m × (size m < max most (size s + 1))

-- a row goes to one sink and then to the other; if the first refuses it, the other is unchanged
module _ {A : Type 0} {B : Type 0} (one : A → Row → Bool → A → Type 0) (other : B → Row → Bool → B → Type 0) where
  abbrev pub BothTake : A → B → Row → Bool → A → B → Type 0
  BothTake a b row true after beside = one a row true after × other b row true beside
  BothTake a b row false after beside =
      (one a row false after × (beside ≡ b)) ⊎ (one a row true after × other b row false beside)
