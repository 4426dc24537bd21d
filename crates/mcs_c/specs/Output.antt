-- The result that a caller gets for a text.
use Rattle.std.specs.Prelude.{◌≡◌, ◌⊎◌, ◌==◌, if◌then◌else◌, ℕ, List, length, Ok, Err, ⊤, string_bytes}
use Rattle.mcs_system.specs.System.{System}
use Rattle.mcs_load.specs.declared.fault.LoadFault.{LoadFault}
use Rattle.mcs_cli.specs.Fault.{run_fault_text}
use Rattle.mcs_cli.specs.Run.{loaded, output_of}
use Rattle.mcs_words.specs.declared.asked.Show.{Show}
use Rattle.mcs_words.specs.declared.asked.Show.TheVariants.{Schedule, Reports, Both}
use Rattle.mcs_cli.specs.declared.fault.RunFault.TheVariants.{Load}
use Rattle.mcs_c.specs.declared.answer.Answer.{Answer}
use Rattle.mcs_c.specs.declared.answer.Answer.TheVariants as answers

-- the output that a number selects
abbrev pub show_of : ℕ → Show
show_of n = if n == 0 then Schedule else if n == 1 then Reports else Both

-- the number of bytes of the selected lines, or of the line of the text's fault
abbrev pub IsLengthOf : List ℕ → ℕ → ℕ → ℕ → Type 0
IsLengthOf text show horizon n =
    ((system : System) × (loaded text ≡ Ok system) × (n ≡ length (output_of (show_of show) system horizon)))
    ⊎ ((f : LoadFault) × (loaded text ≡ Err f) × (n ≡ length (run_fault_text (Load f))))

-- the selected lines, or the line of the text's fault, or no lines if memory ran out
abbrev pub IsAnswer : List ℕ → Show → ℕ → Answer → Type 0
IsAnswer text show horizon (answers.Output lines) =
    (system : System) × (loaded text ≡ Ok system) × (lines.items ≡ output_of show system horizon)
IsAnswer text show horizon (answers.Fault line) =
    (f : LoadFault) × (loaded text ≡ Err f) × (string_bytes line ≡ run_fault_text (Load f))
IsAnswer text show horizon answers.NoMemory = ⊤
