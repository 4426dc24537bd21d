-- The state that a search keeps of rows.
use Rattle.std.specs.Prelude.{◌≡◌, ℕ, List, []}
use Rattle.mcs_ticks.specs.declared.row.Row.{Row}
use Rattle.mcs_ticks.specs.declared.row.What.{What}
use Rattle.mcs_system.specs.System.{System}
use Rattle.mcs_verdict.specs.Findings.{past_of}
use Rattle.mcs_verdict.specs.Watch.{watch_of}
use Rattle.mcs_ever.specs.Marks.{marks_of}
use Rattle.mcs_ever_again.specs.UnderWay.{under_way}
use Rattle.mcs_ever_again.specs.Period.{told_between}
use Rattle.mcs_ever_found.specs.Doings.{doings_of}
use Rattle.mcs_ever_found.specs.Course.{course_of}
use Rattle.mcs_ever_search.specs.Together.{rows_before}
use Rattle.mcs_ever_search.specs.declared.seen.Seen.{Seen}

-- the watch, the signals under way before time t and the counts are those of all rows; the marks
-- and the doings are those of the recent rows
pub record IsOfRows (system : System) (before : List Row) (since : List What) (t : ℕ) (seen : Seen) : Type 0 where
  pub watch : seen.watch ≡ watch_of system (past_of [] before)
  pub under_way : seen.under_way ≡ under_way system t before
  pub marks : seen.marks ≡ marks_of system since
  pub doings : seen.doings ≡ doings_of system since
  pub course : seen.course ≡ course_of system (past_of [] before)

-- all rows before a moment were added, and those since the kept one are the recent ones
abbrev pub HasSeen : System → ℕ → ℕ → Seen → Type 0
HasSeen system kept clock seen = IsOfRows system (rows_before system clock) (told_between system kept clock) clock seen
