-- The check for all time that a caller gets for a text.
use Rattle.std.specs.Prelude.{◌≡◌, ℕ, List, Ok}
use Rattle.mcs_system.specs.System.{System}
use Rattle.mcs_cli.specs.Run.{loaded}
use Rattle.mcs_check_words.specs.declared.asked.Format.{Format}
use Rattle.mcs_check_forever.specs.Verdict.{IsForetold, status_of}
use Rattle.mcs_check_forever.specs.declared.verdict.Verdict.{Verdict}

-- lines that mcscheck may write for all time of the system of the text, if these notifications may
-- lose signals, and the exit code that comes with them
abbrev pub IsForeverText : List ℕ → List (List ℕ) → ℕ → Format → List ℕ → ℕ → Type 0
IsForeverText text names horizon how lines code = (system : System) × (loaded text ≡ Ok system)
    × (verdict : Verdict) × IsForetold names system horizon how verdict lines × (code ≡ status_of verdict)
