-- The bytes that a check for all time reads and writes.
use Rattle.std.specs.Prelude.{Result, Ok, Err, Option, Some, ◌≡◌, ◌≢◌, ◌⊎◌, List, ℕ, Bool, true, false, ◌||◌, is_some, ⊤}
use Rattle.std.specs.Io.KnownBytes.{Appends, Keeps}
use Rattle.mcs_system.specs.System.{System}
use Rattle.mcs_load.specs.Memory.{no_memory}
use Rattle.mcs_cli.specs.Devices.{AppendsPrefix}
use Rattle.mcs_cli.specs.Run.{IsFaultOfInput, IsRead, IsTooLong}
use Rattle.mcs_cli.specs.declared.fault.RunFault.TheVariants as run
use Rattle.mcs_check_words.specs.declared.asked.Format.{Format}
use Rattle.mcs_check_words.specs.declared.asked.Format.TheVariants as format
use Rattle.mcs_check_words.specs.declared.asked.Options.{Options}
use Rattle.mcs_check_run.specs.Allowed.{IsUnknownFault, first_unknown, notifications, names_of}
use Rattle.mcs_check_run.specs.declared.fault.CheckFault.TheVariants.{Unknown, Run}
use Rattle.mcs_check_forever.specs.declared.forever_fault.ForeverFault.{ForeverFault}
use Rattle.mcs_check_forever.specs.declared.forever_fault.ForeverFault.TheVariants.{Check, Mixed}
use Rattle.mcs_check_forever.specs.declared.verdict.Verdict.{Verdict}
use Rattle.mcs_check_forever.specs.Verdict.{IsForetold}

abbrev pub is_rows : Format → Bool
is_rows format.Csv = true
is_rows _ = false

-- an option is given that does not go with a check for all time
abbrev pub is_mixed : Options → Bool
is_mixed options = options.show_given || (options.strict || (is_some options.why || is_rows options.format))

-- the bytes that a target knows before and after, whether it has failed, and the options
module _ (write_old write_new : Option (List ℕ)) (write_failed : Bool) (options : Options) where
  -- The bytes written for a system: exactly its text; a prefix of the text if the target failed; no
  -- byte if a name is unknown or memory ran out.
  abbrev pub IsTold : System → Result Verdict ForeverFault → Type 0
  IsTold system (Ok verdict) = (text : List ℕ) × IsForetold (names_of options) system options.horizon options.format verdict text
      × Appends write_old write_new text
  IsTold system (Err (Check (Run (run.Sim f)))) = Keeps write_old write_new
  IsTold system (Err (Check (Run run.Write))) = (write_failed ≡ true)
      × (verdict : Verdict) × (text : List ℕ) × IsForetold (names_of options) system options.horizon options.format verdict text
      × AppendsPrefix write_old write_new text
  IsTold system (Err (Check (Unknown name nearest))) = Keeps write_old write_new
      × (asked : List ℕ) × (first_unknown (notifications system) (names_of options) ≡ Some asked)
      × IsUnknownFault (notifications system) asked (Unknown name nearest)
  IsTold system (Err _) = ⊥

  -- the bytes that a source knows before and after, how many it has given by then, and whether it
  -- has failed
  module _ (read_old read_new : Option (List ℕ)) (given_old given_new : ℕ) (read_failed : Bool) where
    -- The options are checked first, then the file; a fault of these writes no byte. Else the
    -- system that was read is checked.
    abbrev pub IsForetelling : Result Verdict ForeverFault → Type 0
    IsForetelling (Err Mixed) = Keeps write_old write_new × (is_mixed options ≡ true)
    IsForetelling (Err (Check (Run run.Read))) =
        Keeps write_old write_new × ((read_failed ≡ true) ⊎ IsTooLong read_old read_new given_old given_new)
    IsForetelling (Err (Check (Run (run.Load f)))) =
        Keeps write_old write_new × (f ≢ no_memory → IsFaultOfInput read_old read_new given_old given_new f)
    IsForetelling result = (is_mixed options ≡ false)
        × (system : System) × IsRead read_old read_new given_old given_new system × IsTold system result

-- why a system is not checked for all time: an option does not go with it, a name is unknown, or
-- memory ran out
abbrev pub IsUnforetold : Options → System → ForeverFault → Type 0
IsUnforetold options system Mixed = is_mixed options ≡ true
IsUnforetold options system (Check (Unknown name nearest)) =
    (asked : List ℕ) × (first_unknown (notifications system) (names_of options) ≡ Some asked)
    × IsUnknownFault (notifications system) asked (Unknown name nearest)
IsUnforetold options system (Check (Run (run.Sim f))) = ⊤
IsUnforetold options system (Check fault) = ⊥
