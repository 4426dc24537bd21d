use Rattle.std.proofs.Common.{◌≡◌, ◌≤◌, ◌^◌, ℕ, List, [], take}
use Rattle.std.specs.List.{AllByRecursion}
use Rattle.mcs_ticks.specs.declared.row.Row.{Row}
use Rattle.mcs_ticks.specs.declared.row.What.{What}
use Rattle.mcs_verdict.specs.Findings.{UpTo, past_of}
use Rattle.mcs_ever_search.specs.stored.Seen.{IsOfRows}
use Rattle.mcs_ever_search.proofs.Seeing.{Sees}
use Rattle.mcs_ever_search.proofs.seen.Seen.see_all.Given as goal

abbrev pub invariant-loop-row : goal.invariant-loop-row
invariant-loop-row l =
    (before : List Row) (since : List What) (t : ℕ) → IsOfRows l.system before since t l.initial.self → UpTo t (past_of [] before) → t ≤ 2 ^ 40 →
    AllByRecursion (λ (row : Row). row.moment ≡ t) l.rows → Sees l.system before since t (take l.row-index l.rows) l.self
