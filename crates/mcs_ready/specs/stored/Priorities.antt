-- A set of priorities as words of 64 bits.
use Rattle.std.specs.Prelude.{◌≡◌, ℕ, ◌+◌, ◌-◌, ◌<◌, ◌≤◌, ◌/◌, ◌%◌, ◌==◌, Bool, true, false, List, slice_index, Option, Some, None, MatchOption}
use Rattle.std.specs.Int.{bit_at}

-- whether the priority is in the set: its bit is 1
abbrev pub has : List ℕ → ℕ → Bool
has words priority = bit_at (slice_index words (priority / 64)) (priority % 64) == 1

-- the maximum priority of the set, or `None` if the set is empty
abbrev pub IsGreatest : List ℕ → Option ℕ → Type 0
IsGreatest words found =
    MatchOption found ((q : ℕ) → has words q ≡ false) (λ p. (has words p ≡ true) × ((q : ℕ) → p < q → has words q ≡ false))

-- the maximum one below this priority, or `None` if there is no such one
abbrev pub IsGreatestBelow : ℕ → List ℕ → Option ℕ → Type 0
IsGreatestBelow end words found =
    MatchOption found ((q : ℕ) → q < end → has words q ≡ false) (λ p. (has words p ≡ true) × ((q : ℕ) → p < q → q < end → has words q ≡ false))

-- the priority plus 1, or 0 for `None`
abbrev pub end_behind : Option ℕ → ℕ
end_behind None = 0
end_behind (Some greatest) = greatest + 1

-- the set ends here: no priority from `end` on is in it, and the one before `end` is, unless `end`
-- is 0
abbrev pub IsEnd : List ℕ → ℕ → Type 0
IsEnd words end =
    (end ≤ 256) × ((q : ℕ) → end ≤ q → has words q ≡ false) × (0 < end → has words (end - 1) ≡ true)
