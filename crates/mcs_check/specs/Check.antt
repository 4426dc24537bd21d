-- The bytes that a check reads and writes.
use Rattle.std.specs.Prelude.{Result, Ok, Err, Option, Some, None, ◌≡◌, ◌≢◌, ◌⊎◌, List, [], ℕ, Bool, true, false, ◌++◌, length, map, flat_map, ⊤}
use Rattle.std.specs.Io.KnownBytes.{Appends, Keeps}
use Rattle.mcs_ticks.specs.declared.row.Row.{Row}
use Rattle.mcs_system.specs.System.{System}
use Rattle.mcs_core.specs.Clock.{schedule}
use Rattle.mcs_load.specs.Memory.{no_memory}
use Rattle.mcs_hints.specs.Hints.{hints_of}
use Rattle.mcs_verdict.specs.declared.finding.Found.{Found}
use Rattle.mcs_verdict.specs.Findings.{findings, all_at_end, found_in, past_of}
use Rattle.mcs_cli.specs.Devices.{AppendsPrefix}
use Rattle.mcs_cli.specs.Run.{IsFaultOfInput, IsRead, IsTooLong}
use Rattle.mcs_cli.specs.declared.fault.RunFault.TheVariants as run
use Rattle.mcs_check_words.specs.declared.asked.Format.{Format}
use Rattle.mcs_check_words.specs.declared.asked.Options.{Options}
use Rattle.mcs_check_words.specs.declared.asked.Show.{Show}
use Rattle.mcs_check_words.specs.declared.asked.Show.TheVariants as show
use Rattle.mcs_chain.specs.Figures.{all_figures}
use Rattle.mcs_chain.specs.Found.{all_slow, all_unanswered}
use Rattle.mcs_check_lines.specs.declared.checked.Checked.{Checked}
use Rattle.mcs_check_lines.specs.declared.counts.Counts.{Counts}
use Rattle.mcs_check_run.specs.declared.fault.CheckFault.{CheckFault}
use Rattle.mcs_check_run.specs.declared.fault.CheckFault.TheVariants.{Run, Unknown, Mixed}
use Rattle.mcs_check_run.specs.Allowed.{IsUnknownFault, first_unknown, flags_of, names_of, notifications}
use Rattle.mcs_check.specs.Judged.{all_unjudged, scope_of}
use Rattle.mcs_check_lines.specs.Chains.{chain_found_line, chain_found_lines, chain_lines, with_placed}
use Rattle.mcs_check_lines.specs.Checked.{chain_counts}
use Rattle.mcs_check_lines.specs.Counts.{no_counts}
use Rattle.mcs_check_lines.specs.Formats.{counts_line, found_line, head_text, hint_line, is_mixed}
use Rattle.mcs_check_lines.specs.Figures.{table_lines}
use Rattle.mcs_check_lines.specs.Told.{counts_with, ended_lines, found_lines, merged_in, told}
use Rattle.mcs_check_lines.specs.Unjudged.{unjudged_line}

-- the findings in the schedule of the one clock over all cores
abbrev pub found_of : System → ℕ → List Found
found_of system horizon = findings system horizon (schedule system horizon)

module _ (names : List (List ℕ)) (system : System) (horizon : ℕ) where
  -- the rows of the run, the latest first
  abbrev pub all_rows : List Row
  all_rows = past_of [] (schedule system horizon)

  -- the counts, if these notifications may lose signals
  abbrev pub thread_counts_of : Counts
  thread_counts_of =
      counts_with (flags_of names system.notes) (found_of system horizon)
      (merged_in system [] (schedule system horizon)) (length (hints_of system)) no_counts

  abbrev pub counts_of : Checked
  counts_of = record { counts = thread_counts_of; scope = scope_of system all_rows horizon; chains = chain_counts system all_rows horizon }

  -- the lines of the rows' findings, in order of time; each slow answer stands after the findings of
  -- all rows of its time, chain by chain
  abbrev pub rows_lines : Format → List ℕ
  rows_lines how =
      with_placed (map (λ f. (f.moment, found_line how system f)) (told (flags_of names system.notes) (found_in system [] (schedule system horizon))))
      (map (λ f. (f.moment, chain_found_line how system f)) (all_slow system all_rows 0 system.chains))

  -- the lines of findings, unjudged threads and hints: those of the rows, and those at the horizon
  abbrev pub findings_lines : Format → List ℕ
  findings_lines how =
      rows_lines how
      ++ found_lines how system (flags_of names system.notes) (all_at_end system all_rows horizon)
      ++ chain_found_lines how system (all_unanswered system all_rows horizon 0 system.chains)
      ++ flat_map (unjudged_line how system) (all_unjudged system all_rows horizon)
      ++ flat_map (hint_line how system) (hints_of system)

  -- the lines of the figures
  abbrev pub figures_lines : Format → List ℕ
  figures_lines how = table_lines how system horizon all_rows ++ chain_lines how system 0 (all_figures horizon system all_rows)

  -- the lines that are asked for: those above, or those of the jobs with the answers of chains
  abbrev pub shown_lines : Format → Show → List ℕ
  shown_lines how show.Findings = findings_lines how
  shown_lines how show.Jobs = ended_lines how system [] (schedule system horizon)
  shown_lines how show.Table = figures_lines how
  shown_lines how show.Both = findings_lines how ++ figures_lines how

  -- the first line if there is one, the lines that are asked for, and the line of the counts
  abbrev pub check_text : Format → Show → List ℕ
  check_text how asked = head_text how asked system ++ shown_lines how asked ++ counts_line how counts_of

-- the bytes that a source knows before and after the check, how many it has given by then, and
-- whether it has failed
module _ (read_old read_new : Option (List ℕ)) (given_old given_new : ℕ) (read_failed : Bool) where
  -- the bytes that a target knows before and after the check, whether it has failed, and the
  -- options
  module _ (write_old write_new : Option (List ℕ)) (write_failed : Bool) (options : Options) where
    -- The format can show what is asked for, the names are known, and exactly the text of the
    -- system that was read was written.
    abbrev pub IsDone : Checked → Type 0
    IsDone checked = (system : System) × IsRead read_old read_new given_old given_new system
        × (is_mixed options.format options.show ≡ false)
        × (first_unknown (notifications system) (names_of options) ≡ None)
        × Appends write_old write_new (check_text (names_of options) system options.horizon options.format options.show)
        × (checked ≡ counts_of (names_of options) system options.horizon)

    -- a prefix of that text was written
    abbrev pub IsBegun : Type 0
    IsBegun = (system : System) × IsRead read_old read_new given_old given_new system
        × AppendsPrefix write_old write_new (check_text (names_of options) system options.horizon options.format options.show)

    -- a given name is unknown: the fault has the first such name and the nearest known one
    abbrev pub IsUnknown : CheckFault → Type 0
    IsUnknown fault = (system : System) × IsRead read_old read_new given_old given_new system
        × (name : List ℕ) × (first_unknown (notifications system) (names_of options) ≡ Some name)
        × IsUnknownFault (notifications system) name fault

    -- The options are checked first, then the file, then the names; a fault of these writes no
    -- byte. A device is blamed only if it has failed.
    abbrev pub IsFault : CheckFault → Type 0
    IsFault (Run run.Read) =
        Keeps write_old write_new × ((read_failed ≡ true) ⊎ IsTooLong read_old read_new given_old given_new)
    IsFault (Run (run.Load f)) =
        Keeps write_old write_new × (f ≢ no_memory → IsFaultOfInput read_old read_new given_old given_new f)
    IsFault (Run (run.Sim f)) = IsBegun
    IsFault (Run run.Write) = (write_failed ≡ true) × IsBegun
    IsFault Mixed = Keeps write_old write_new × (is_mixed options.format options.show ≡ true)
    IsFault (Unknown name nearest) = Keeps write_old write_new × IsUnknown (Unknown name nearest)

    -- what a check has read and written, by its result
    abbrev pub IsCheck : Result Checked CheckFault → Type 0
    IsCheck (Ok checked) = IsDone checked
    IsCheck (Err f) = IsFault f

-- why a system is not checked: the options do not go together, a name is unknown, or memory ran out
abbrev pub IsRefusal : Options → System → CheckFault → Type 0
IsRefusal options system Mixed = is_mixed options.format options.show ≡ true
IsRefusal options system (Unknown name nearest) = (given : List ℕ) × (first_unknown (notifications system) (names_of options) ≡ Some given)
    × IsUnknownFault (notifications system) given (Unknown name nearest)
IsRefusal options system (Run (run.Sim f)) = ⊤
IsRefusal options system (Run fault) = ⊥
