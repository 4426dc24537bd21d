-- The text and the verdict of a system for all time.
use Rattle.std.specs.Prelude.{◌≡◌, ℕ, ◌+◌, Bool, not, ◌==◌, ◌&&◌, ◌||◌, if◌then◌else◌, List, ◌++◌, length, flat_map, count_by, is_some}
use Rattle.std.specs.List.{list_any, sum_by}
use Rattle.mcs_ticks.specs.Capped.{capped}
use Rattle.mcs_system.specs.System.{System}
use Rattle.mcs_spin.specs.Spun.{spun}
use Rattle.mcs_check_run.specs.Allowed.{flags_of}
use Rattle.mcs_check_words.specs.declared.asked.Format.{Format}
use Rattle.mcs_check_words.specs.declared.asked.Format.TheVariants as format
use Rattle.mcs_check_lines.specs.Deadlines.{chain_deadlines, has_chain_deadline, thread_deadlines}
use Rattle.mcs_ever_told.specs.declared.line.Line.TheVariants.{Sets}
use Rattle.mcs_ever_told.specs.declared.line.Totals.{Totals}
use Rattle.mcs_ever_told.specs.declared.line.LineFormat.{LineFormat}
use Rattle.mcs_ever_told.specs.declared.line.LineFormat.TheVariants as lines
use Rattle.mcs_ever_told.specs.Formats.{line_text, lines_text}
use Rattle.mcs_ever_told.specs.declared.outlook.told.Told.{Told}
use Rattle.mcs_ever_told.specs.Outlook.{AreTold}
use Rattle.mcs_ever_chain.specs.declared.told.ChainTold.{ChainTold}
use Rattle.mcs_ever_chain.specs.Told.{AreChainsTold}
use Rattle.mcs_ever_chain_lines.specs.Lines.{chain_part, chains_text, findings_of}
use Rattle.mcs_check_forever.specs.declared.verdict.Verdict.{Verdict}
use Rattle.mcs_check_forever.specs.declared.verdict.Verdict.TheVariants.{Clean, Found, Open}

-- lines as words or as objects; there are no rows of CSV
abbrev pub line_format : Format → LineFormat
line_format format.Json = lines.Json
line_format _ = lines.Text

-- the number of sets that repeat
abbrev pub repeating : List Told → ℕ
repeating told = count_by (λ (t : Told). is_some t.period) told

-- the number of findings of all sets, and of all chains; each at most 2^64 - 1, and so is their sum
abbrev pub set_findings : List Told → ℕ
set_findings told = capped (sum_by (λ (t : Told). t.findings) told)

abbrev pub chain_findings : List ChainTold → ℕ
chain_findings chains = capped (sum_by findings_of chains)

abbrev pub findings : List Told → List ChainTold → ℕ
findings told chains = capped (set_findings told + chain_findings chains)

-- how many threads and chains have a deadline
abbrev pub deadlines : System → ℕ
deadlines system = thread_deadlines system.threads + chain_deadlines system.chains

abbrev pub totals_of : System → List Told → List ChainTold → Totals
totals_of system told chains =
    record {
      sets = length told;
      repeating = repeating told;
      findings = findings told chains;
      threads = length system.threads;
      deadlines = deadlines system;
    }

-- the lines of each set, those of each chain, and last the line of their counts
abbrev pub told_text : Format → System → ℕ → List Told → List ChainTold → List ℕ
told_text how system horizon told chains =
    flat_map (λ (t : Told). lines_text (line_format how) system t.lines.items) told
    ++ (chains_text system (line_format how) horizon chains
    ++ line_text (line_format how) system (Sets (totals_of system told chains)))

-- a chain with a deadline that was not found to recur
abbrev pub is_open : System → ChainTold → Bool
is_open system told = not (is_some told.period) && has_chain_deadline (chain_part system told.chain)

-- that there is no finding says nothing if a set does not repeat, or a chain with a deadline does
-- not, or if there is no deadline
abbrev pub says_nothing : System → List Told → List ChainTold → Bool
says_nothing system told chains =
    not (repeating told == length told) || (list_any (is_open system) chains || deadlines system == 0)

-- a finding; or no finding for ever; or no finding so far
abbrev pub verdict_of : System → List Told → List ChainTold → Verdict
verdict_of system told chains =
    if not (findings told chains == 0) then Found
    else if says_nothing system told chains then Open else Clean

-- the exit code of a verdict
abbrev pub status_of : Verdict → ℕ
status_of Clean = 0
status_of Found = 5
status_of Open = 6

-- These bytes are the text of the system for all time, if these notifications may lose signals, and
-- this is the verdict. Threads that only compute may as well spin, and they do in what is reported.
-- Its rows are those of the system, except for the ends of such threads' rounds; its findings are
-- those of the system (`mcs_spin`)
pub record IsForetold (names : List (List ℕ)) (system : System) (horizon : ℕ) (how : Format) (verdict : Verdict) (text : List ℕ) : Type 0 where
  pub told : List Told
  pub so : AreTold (spun system) (flags_of names system.notes) horizon told
  pub chains : List ChainTold
  pub chains_so : AreChainsTold (spun system) horizon chains
  pub text_is : text ≡ told_text how (spun system) horizon told chains
  pub verdict_is : verdict ≡ verdict_of (spun system) told chains
