-- The result of a check that a caller gets for a text.
use Rattle.std.specs.Prelude.{◌≡◌, ◌==◌, if◌then◌else◌, ℕ, false, List, [], ◌∷◌, Some, IfSome, Ok, Err}
use Rattle.std.specs.List.{slice_split}
use Rattle.mcs_system.specs.System.{System}
use Rattle.mcs_cli.specs.Run.{loaded}
use Rattle.mcs_cli.specs.declared.fault.RunFault.TheVariants.{Load}
use Rattle.mcs_check_words.specs.declared.asked.Format.{Format}
use Rattle.mcs_check_words.specs.declared.asked.Format.TheVariants as format
use Rattle.mcs_check_words.specs.declared.asked.Show.{Show}
use Rattle.mcs_check_words.specs.declared.asked.Show.TheVariants as show
use Rattle.mcs_check_lines.specs.Status.{status_of}
use Rattle.mcs_check_run.specs.declared.fault.CheckFault.{CheckFault}
use Rattle.mcs_check_run.specs.declared.fault.CheckFault.TheVariants.{Run, Unknown}
use Rattle.mcs_check_run.specs.Allowed.{IsUnknownFault, first_unknown, notifications}
use Rattle.mcs_check.specs.Check.{check_text, counts_of}
use Rattle.mcs_check_run.specs.Fault.{check_fault_text}

-- the part of a schedule that a number selects
abbrev pub part_of : ℕ → Show
part_of n = if n == 0 then show.Findings else if n == 1 then show.Jobs else if n == 2 then show.Table else show.Both

-- the format that a number selects
abbrev pub format_of : ℕ → Format
format_of n = if n == 0 then format.Text else if n == 1 then format.Csv else format.Json

-- the names of a text, one a line; the empty text has none
abbrev pub names_in : List ℕ → List (List ℕ)
names_in [] = []
names_in (byte ∷ bytes) = slice_split (λ b. b == 10) (byte ∷ bytes)

-- the text, and the names of the notifications that may lose signals
module _ (text : List ℕ) (names : List (List ℕ)) where
  -- the lines that mcscheck writes of the system of the text, and its exit code
  abbrev pub IsVerdictText : ℕ → Format → Show → List ℕ → ℕ → Type 0
  IsVerdictText horizon how asked lines code = (system : System) × (loaded text ≡ Ok system)
      × (lines ≡ check_text names system horizon how asked) × (code ≡ status_of false (counts_of names system horizon))

  -- why there is no verdict: the first fault of the text, or the first name that no notification has
  abbrev pub IsWhyNot : CheckFault → Type 0
  IsWhyNot (Run (Load f)) = loaded text ≡ Err f
  IsWhyNot (Unknown name nearest) = (system : System) × (loaded text ≡ Ok system)
      × (given : List ℕ) × (first_unknown (notifications system) names ≡ Some given)
      × IsUnknownFault (notifications system) given (Unknown name nearest)
  IsWhyNot _ = ⊥

  -- the line that mcscheck writes of such a fault
  abbrev pub IsFaultLine : List ℕ → Type 0
  IsFaultLine line = (fault : CheckFault) × IsWhyNot fault × IfSome (check_fault_text fault) (λ said. line ≡ said)
