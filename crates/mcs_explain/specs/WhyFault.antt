-- The lines of the faults of an explanation, and its exit codes.
use Rattle.std.specs.Prelude.{ℕ, ◌==◌, if◌then◌else◌, List, ◌++◌, Option, Some, None, codes, decimal, option_map, string_bytes}
use Rattle.std.specs.Fmt.{debug_str, ◌++?◌}
use Rattle.mcs_cli.specs.Status.{status_of_run}
use Rattle.mcs_explain.specs.declared.why_fault.WhyFault.{WhyFault}
use Rattle.mcs_explain.specs.declared.why_fault.WhyFault.TheVariants.{Run, Mixed, NoThread, NoName, NoRound, NoAnswer}
use Rattle.mcs_check_run.specs.declared.fault.CheckFault.TheVariants as check
use Rattle.mcs_check_run.specs.Fault.{check_fault_text}

-- the numbers of n rounds
abbrev pub rounds_text : ℕ → List ℕ
rounds_text n = if n == 0 then codes "there is none" else if n == 1 then codes "there is round 1" else codes "there are rounds 1 to " ++ decimal n

-- the numbers of n answers
abbrev pub answers_text : ℕ → List ℕ
answers_text n = if n == 0 then codes "there is none" else if n == 1 then codes "there is answer 1" else codes "there are answers 1 to " ++ decimal n

-- the nearest name
abbrev pub nearest_text : Option (List ℕ) → List ℕ
nearest_text (Some near) = codes "the nearest is " ++ near
nearest_text None = codes "there is none"

-- without the line feed; the given texts are written as Rust's `{:?}` does, and have no line feed
-- in them
abbrev pub why_fault_text : WhyFault → Option (List ℕ)
why_fault_text (Run fault) = check_fault_text (check.Run fault)
why_fault_text Mixed = Some (codes "mcscheck: --why: not with --show, --strict, --allow-lost or --format csv")
why_fault_text (NoThread name nearest) = Some (codes "mcscheck: --why: no thread is called ") ++? debug_str (string_bytes name)
    ++? Some (codes ": " ++ nearest_text (option_map string_bytes nearest))
why_fault_text (NoName name nearest) = Some (codes "mcscheck: --why: no thread or chain is called ") ++? debug_str (string_bytes name)
    ++? Some (codes ": " ++ nearest_text (option_map string_bytes nearest))
why_fault_text (NoRound thread round rounds) =
    Some (codes "mcscheck: --why: no round ") ++? debug_str (string_bytes round)
    ++? Some (codes " of " ++ (string_bytes thread ++ (codes ": " ++ rounds_text rounds.0)))
why_fault_text (NoAnswer chain number answers) =
    Some (codes "mcscheck: --why: no answer ") ++? debug_str (string_bytes number)
    ++? Some (codes " of " ++ (string_bytes chain ++ (codes ": " ++ answers_text answers.0)))

-- the arguments are to blame for all faults but those of the run
abbrev pub status_of : WhyFault → ℕ
status_of (Run fault) = status_of_run fault
status_of _ = 2
