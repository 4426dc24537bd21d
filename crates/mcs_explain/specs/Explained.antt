-- The bytes that an explanation reads and writes.
use Rattle.std.specs.Prelude.{Result, Ok, Err, Option, ◌≡◌, ◌≢◌, ◌⊎◌, List, ℕ, Bool, true, false, string_bytes, ⊤}
use Rattle.std.specs.Io.KnownBytes.{Appends, Keeps}
use Rattle.mcs_system.specs.System.{System}
use Rattle.mcs_load.specs.Memory.{no_memory}
use Rattle.mcs_cli.specs.Devices.{AppendsPrefix}
use Rattle.mcs_cli.specs.Run.{IsFaultOfInput, IsRead, IsTooLong}
use Rattle.mcs_cli.specs.declared.fault.RunFault.TheVariants as run
use Rattle.mcs_check_words.specs.declared.asked.Options.{Options}
use Rattle.mcs_explain.specs.declared.asked.Asked.TheVariants as asked
use Rattle.mcs_explain.specs.declared.found.Found.TheVariants as found
use Rattle.mcs_explain.specs.declared.why_fault.WhyFault.{WhyFault}
use Rattle.mcs_explain.specs.declared.why_fault.WhyFault.TheVariants.{Run, Mixed, NoThread, NoName, NoRound, NoAnswer}
use Rattle.mcs_explain.specs.Asked.{IsNobody, asked_of}
use Rattle.mcs_explain.specs.Why.{found_of, is_mixed, is_there, why_text}

-- what is not there: a thread or a chain with the name, or a round or an answer with the number
abbrev pub IsMissing : System → ℕ → List ℕ × List ℕ → WhyFault → Type 0
IsMissing system horizon question (NoThread name nearest) =
    (asked_of system question.0 ≡ asked.Nobody) × IsNobody system question.0 (NoThread name nearest)
IsMissing system horizon question (NoName name nearest) =
    (asked_of system question.0 ≡ asked.Nobody) × IsNobody system question.0 (NoName name nearest)
IsMissing system horizon question (NoRound thread round rounds) = (found_of system horizon question ≡ found.NoRound rounds.0)
    × (string_bytes thread ≡ question.0) × (string_bytes round ≡ question.1)
IsMissing system horizon question (NoAnswer chain number answers) = (found_of system horizon question ≡ found.NoAnswer answers.0)
    × (string_bytes chain ≡ question.0) × (string_bytes number ≡ question.1)
IsMissing system horizon question _ = ⊥

-- the bytes that a target knows before and after, whether it has failed, and the name and number
-- that are asked about
module _ (write_old write_new : Option (List ℕ)) (write_failed : Bool) (options : Options) (question : List ℕ × List ℕ) where
  -- The bytes written about a system: all of the explanation if the round or the answer exists, a
  -- prefix of it after a fault of the run, and no byte if nothing is there.
  abbrev pub IsTold : System → Result (Unit {0}) WhyFault → Type 0
  IsTold system (Ok done) = (is_there (found_of system options.horizon question) ≡ true)
      × Appends write_old write_new (why_text options.format system options.horizon question)
  IsTold system (Err (Run (run.Sim f))) = AppendsPrefix write_old write_new (why_text options.format system options.horizon question)
  IsTold system (Err (Run run.Write)) = (write_failed ≡ true)
      × AppendsPrefix write_old write_new (why_text options.format system options.horizon question)
  IsTold system (Err (Run f)) = ⊥
  IsTold system (Err fault) = Keeps write_old write_new × IsMissing system options.horizon question fault

  -- the bytes that a source knows before and after, how many it has given by then, and whether it
  -- has failed
  module _ (read_old read_new : Option (List ℕ)) (given_old given_new : ℕ) (read_failed : Bool) where
    -- The options are checked first, then the file; a fault of these writes no byte. Else the
    -- system that was read is explained.
    abbrev pub IsExplained : Result (Unit {0}) WhyFault → Type 0
    IsExplained (Err Mixed) = Keeps write_old write_new × (is_mixed options ≡ true)
    IsExplained (Err (Run run.Read)) =
        Keeps write_old write_new × ((read_failed ≡ true) ⊎ IsTooLong read_old read_new given_old given_new)
    IsExplained (Err (Run (run.Load f))) =
        Keeps write_old write_new × (f ≢ no_memory → IsFaultOfInput read_old read_new given_old given_new f)
    IsExplained result = (is_mixed options ≡ false)
        × (system : System) × IsRead read_old read_new given_old given_new system × IsTold system result

-- why nothing of a system is explained: an option does not go with it, memory ran out, or it is not
-- there
abbrev pub IsUnexplained : Options → List ℕ × List ℕ → System → WhyFault → Type 0
IsUnexplained options question system Mixed = is_mixed options ≡ true
IsUnexplained options question system (Run (run.Sim f)) = ⊤
IsUnexplained options question system fault = IsMissing system options.horizon question fault
