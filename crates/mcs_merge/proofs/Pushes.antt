-- Rows that are put behind others.
use Rattle.std.proofs.Common.{ℕ, ◌≤◌, List, [], ◌∷◌, ◌++◌, arith}
use Rattle.mcs_ticks.specs.declared.row.Row.{Row}
use Rattle.mcs_merge.specs.Merge.{AreFrom, DoNotFall}
use Rattle.mcs_merge.proofs.Joins.{AreFrom-earlier}

-- no moment of the rows is above this one
abbrev pub AreUntil : ℕ → List Row → Type 0
AreUntil t [] = Unit {0}
AreUntil t (row ∷ rows) = (row.moment ≤ t) × AreUntil t rows

pub AreUntil-later : (t u : ℕ) (rows : List Row) → t ≤ u → AreUntil t rows → AreUntil u rows
AreUntil-later t u [] l h = tt
AreUntil-later t u (row ∷ rows) l h = (let first = h.0 in omega arith, AreUntil-later t u rows l h.1)

pub AreUntil-append : (t : ℕ) (rows more : List Row) → AreUntil t rows → AreUntil t more → AreUntil t (rows ++ more)
AreUntil-append t [] more h k = k
AreUntil-append t (row ∷ rows) more h k = (h.0, AreUntil-append t rows more h.1 k)

pub AreFrom-append : (t : ℕ) (rows more : List Row) → AreFrom t rows → AreFrom t more → AreFrom t (rows ++ more)
AreFrom-append t [] more h k = k
AreFrom-append t (row ∷ rows) more h k = (h.0, AreFrom-append t rows more h.1 k)

-- rows until a moment, and then rows from it on
pub DoNotFall-append : (t : ℕ) (rows more : List Row) → DoNotFall rows → AreUntil t rows → DoNotFall more → AreFrom t more → DoNotFall (rows ++ more)
DoNotFall-append t [] more h k i j = i
DoNotFall-append t (row ∷ rows) more h k i j =
    (AreFrom-append row.moment rows more h.0 (AreFrom-earlier row.moment t more k.0 j), DoNotFall-append t rows more h.1 k.1 i j)

-- one more row, at this moment or later
pub DoNotFall-push : (t : ℕ) (rows : List Row) (row : Row) → DoNotFall rows → AreUntil t rows → t ≤ row.moment → DoNotFall (rows ++ row ∷ [])
DoNotFall-push t rows row h k l = DoNotFall-append t rows (row ∷ []) h k (tt, tt) (l, tt)

pub AreUntil-push : (t : ℕ) (rows : List Row) (row : Row) → AreUntil t rows → t ≤ row.moment → AreUntil row.moment (rows ++ row ∷ [])
AreUntil-push t rows row k l = AreUntil-append row.moment rows (row ∷ []) (AreUntil-later t row.moment rows l k) (omega arith, tt)
