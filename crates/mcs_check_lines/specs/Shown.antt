-- The line of a finding or a job.
use Rattle.std.specs.Prelude.{ℕ, List}
use Rattle.mcs_system.specs.System.{System}
use Rattle.mcs_check_words.specs.declared.asked.Format.{Format}
use Rattle.mcs_check_lines.specs.declared.shown.Shown.{Shown}
use Rattle.mcs_check_lines.specs.declared.shown.Shown.TheVariants as shown
use Rattle.mcs_check_lines.specs.Formats.{found_line, job_line}

-- the line of what is shown
abbrev pub shown_text : Format → System → Shown → List ℕ
shown_text how system (shown.Found found) = found_line how system found
shown_text how system (shown.Job job) = job_line how system job
