-- The lines of unjudged threads.
use Rattle.std.specs.Prelude.{ℕ, ◌++◌, List, [], ◌∷◌, Option, codes, decimal}
use Rattle.mcs_fields.specs.Fields.{Text, amount, empty, name}
use Rattle.mcs_system.specs.System.{System}
use Rattle.mcs_text.specs.Text.{counted, line, thread_name}
use Rattle.mcs_check_words.specs.declared.asked.Format.{Format}
use Rattle.mcs_check_lines.specs.declared.unjudged.Unjudged.{Unjudged}
use Rattle.mcs_check_lines.specs.Fields.{Fields}
use Rattle.mcs_check_lines.specs.Figures.{known, value_word}
use Rattle.mcs_check_lines.specs.Formats.{if_chains, no_columns, written}

-- the deadline, and when the round under way was activated, or `-` if none is under way
abbrev pub time_words : ℕ → Option ℕ → List Text
time_words deadline activated = counted ((codes "deadline", deadline) ∷ []) ++ codes "activated" ∷ value_word (known activated) ∷ []

abbrev pub unjudged_words : System → Unjudged → List Text
unjudged_words system u = codes "unjudged" ∷ thread_name system u.thread ∷ time_words u.deadline u.activated

-- the line of an unjudged thread: the horizon, the thread's core, and the thread
abbrev pub unjudged_text : System → Unjudged → Text
unjudged_text system u = line (decimal u.moment) (decimal u.core ∷ unjudged_words system u)

-- in the columns of findings
abbrev pub unjudged_fields : System → Unjudged → Fields
unjudged_fields system u =
    (codes "moment", amount u.moment) ∷ (codes "core", amount u.core) ∷ (codes "kind", name (codes "unjudged"))
    ∷ (codes "thread", name (thread_name system u.thread)) ∷ (codes "note", empty) ∷ (codes "word", empty) ∷ (codes "number", empty)
    ∷ (codes "response", empty) ∷ (codes "age", empty) ∷ (codes "deadline", amount u.deadline) ∷ (codes "activated", known u.activated)
    ∷ (codes "set", empty) ∷ (codes "queued", empty) ∷ (codes "ready", empty) ∷ (codes "running", empty) ∷ (codes "throttled", empty) ∷ (codes "blocked", empty)
    ∷ (codes "server", empty) ∷ []

abbrev pub unjudged_line : Format → System → Unjudged → Text
unjudged_line how system u = written how (unjudged_text system u) (unjudged_fields system u ++ if_chains system.chains no_columns)
