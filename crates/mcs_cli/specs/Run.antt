-- The bytes that a run reads and writes.
use Rattle.std.specs.Prelude.{Result, Ok, Err, Option, ◌≡◌, ◌≢◌, ◌≤◌, ◌<◌, ◌^◌, ◌⊎◌, List, ℕ, Bool, true, false, ◌++◌, length}
use Rattle.std.specs.Io.KnownBytes.{Appends, Consumes, IsAtEnd, Keeps}
use Rattle.mcs_ticks.specs.declared.row.Row.{Row}
use Rattle.mcs_system.specs.System.{System}
use Rattle.mcs_core.specs.Clock.{schedule}
use Rattle.mcs_report.specs.declared.reports.Reports.{Reports as ReportsOf}
use Rattle.mcs_report.specs.Reports.{reports_of}
use Rattle.mcs_load.specs.Checks.{answer}
use Rattle.mcs_load.specs.Walk.{file}
use Rattle.mcs_load.specs.Memory.{no_memory}
use Rattle.mcs_load.specs.declared.fault.LoadFault.{LoadFault}
use Rattle.mcs_text.specs.Text.{schedule_text, reports_text}
use Rattle.mcs_cli.specs.Devices.{AppendsPrefix, IsCounted}
use Rattle.mcs_words.specs.declared.asked.Options.{Options}
use Rattle.mcs_words.specs.declared.asked.Show.{Show}
use Rattle.mcs_words.specs.declared.asked.Show.TheVariants.{Schedule, Reports, Both}
use Rattle.mcs_cli.specs.declared.fault.RunFault.{RunFault}
use Rattle.mcs_cli.specs.declared.fault.RunFault.TheVariants as fault

-- the part of a schedule and its reports that is shown
abbrev pub shown_text : Show → System → List Row → ReportsOf → List ℕ
shown_text Schedule system rows reports = schedule_text system rows
shown_text Reports system rows reports = reports_text system reports
shown_text Both system rows reports = schedule_text system rows ++ reports_text system reports

-- the output for the schedule of the one clock over all cores, and for its reports
abbrev pub output_of : Show → System → ℕ → List ℕ
output_of show system horizon =
    let rows = schedule system horizon in
    shown_text show system rows (reports_of system horizon rows)

-- the system of a file, or the first fault of its text
abbrev pub loaded : List ℕ → Result System LoadFault
loaded bytes = answer (file bytes)

-- the bytes that a source knows before and after the run, and the number it has given by then
module _ (read_old read_new : Option (List ℕ)) (given_old given_new : ℕ) where
  -- The source gave these bytes: as many as it counted, and those that it knows, if it reveals its
  -- bytes.
  abbrev pub IsGiven : List ℕ → Type 0
  IsGiven bytes = Consumes read_old read_new bytes × IsCounted given_old given_new (length bytes)

  -- The bytes that were read. They are all that there were, if the source reveals its bytes.
  abbrev pub IsInput : List ℕ → Type 0
  IsInput bytes = IsGiven bytes × IsAtEnd read_new × (length bytes ≤ 2 ^ 26)

  -- the bytes that were read describe this system
  abbrev pub IsRead : System → Type 0
  IsRead system = (bytes : List ℕ) × IsInput bytes × (loaded bytes ≡ Ok system)

  -- the fault is the first of the bytes that were read
  abbrev pub IsFaultOfInput : LoadFault → Type 0
  IsFaultOfInput f = (bytes : List ℕ) × IsInput bytes × (loaded bytes ≡ Err f)

  -- the source gave more than a text may have
  abbrev pub IsTooLong : Type 0
  IsTooLong = (bytes : List ℕ) × IsGiven bytes × (2 ^ 26 < length bytes)

  -- whether the source has failed
  module _ (read_failed : Bool) where
    -- why no system was read
    abbrev pub IsReadFault : RunFault → Type 0
    IsReadFault fault.Read = (read_failed ≡ true) ⊎ IsTooLong
    IsReadFault (fault.Load f) = (read_failed ≡ false) × (f ≢ no_memory → IsFaultOfInput f)
    IsReadFault (fault.Sim f) = ⊥
    IsReadFault fault.Write = ⊥

    -- the bytes that a target knows before and after the run, whether it has failed, and the
    -- options
    module _ (write_old write_new : Option (List ℕ)) (write_failed : Bool) (options : Options) where
      -- the output for the bytes that were read was written, and no more
      abbrev pub IsDone : Type 0
      IsDone = (system : System) × IsRead system
          × Appends write_old write_new (output_of options.show system options.horizon)

      -- a first part of the output for the bytes that were read was written
      abbrev pub IsBegun : Type 0
      IsBegun = (system : System) × IsRead system
          × AppendsPrefix write_old write_new (output_of options.show system options.horizon)

      -- The file is to blame first, and then no output is written. A device is blamed only if it
      -- has failed.
      abbrev pub IsFault : RunFault → Type 0
      IsFault fault.Read = Keeps write_old write_new × ((read_failed ≡ true) ⊎ IsTooLong)
      IsFault (fault.Load f) = Keeps write_old write_new × (f ≢ no_memory → IsFaultOfInput f)
      IsFault (fault.Sim f) = IsBegun
      IsFault fault.Write = (write_failed ≡ true) × IsBegun

      abbrev pub IsRun : Result (Unit {0}) RunFault → Type 0
      IsRun (Ok done) = IsDone
      IsRun (Err f) = IsFault f
