-- The exit code of a check.
use Rattle.std.specs.Prelude.{ℕ, ◌+◌, Bool, false, ◌==◌, ◌&&◌, ◌||◌, not, if◌then◌else◌, Option, Some, None}
use Rattle.mcs_check_lines.specs.declared.checked.ChainCounts.{ChainCounts}
use Rattle.mcs_check_lines.specs.declared.checked.Checked.{Checked}
use Rattle.mcs_check_lines.specs.declared.counts.Counts.{Counts}

-- merged signals and allowed lost signals are no findings
abbrev pub is_found_of_threads : Counts → Bool
is_found_of_threads counts = not (counts.missed + counts.overdue + counts.untaken + counts.lost + counts.never == 0)

abbrev pub is_found_of_chains : Option ChainCounts → Bool
is_found_of_chains None = false
is_found_of_chains (Some chains) = not (chains.slow + chains.unanswered == 0)

-- there is a finding
abbrev pub is_found : Checked → Bool
is_found checked = is_found_of_threads checked.counts || is_found_of_chains checked.chains

-- there is a hint, or an unjudged thread
abbrev pub is_doubtful : Checked → Bool
is_doubtful checked = not (checked.counts.hints + checked.scope.unjudged == 0)

-- 5 if something is wrong, 6 if nothing was judged, else 0
abbrev pub code_of : Bool → Bool → ℕ
code_of wrong nothing = if wrong then 5 else if nothing then 6 else 0

-- what is doubtful counts only if `strict`
abbrev pub status_of : Bool → Checked → ℕ
status_of strict checked = code_of (is_found checked || (strict && is_doubtful checked)) (checked.scope.judged == 0)
