-- The figures of threads and contexts, as named values and as lines.
use Rattle.std.specs.Prelude.{ℕ, false, ◌==◌, if◌then◌else◌, Option, Some, None, List, [], ◌∷◌, ◌++◌, flat_map, suc, codes}
use Rattle.mcs_ticks.specs.declared.row.Row.{Row}
use Rattle.mcs_fields.specs.Fields.{Text, Value, amount, below, empty, joined, listed, name, value_text}
use Rattle.mcs_system.specs.declared.part.ContextPart.{ContextPart}
use Rattle.mcs_system.specs.declared.part.ThreadPart.{ThreadPart}
use Rattle.mcs_system.specs.System.{System}
use Rattle.mcs_text.specs.Text.{context_name, line, thread_name}
use Rattle.mcs_table.specs.declared.figures.Figures.{Figures}
use Rattle.mcs_table.specs.declared.figures.Margin.{Margin}
use Rattle.mcs_table.specs.declared.figures.Margin.TheVariants.{Left, Over}
use Rattle.mcs_table.specs.declared.figures.Signals.{Signals}
use Rattle.mcs_table.specs.Figures.{figures_of}
use Rattle.mcs_table.specs.Unused.{unused_of}
use Rattle.mcs_check_words.specs.declared.asked.Format.{Format}
use Rattle.mcs_check_lines.specs.Fields.{Fields}
use Rattle.mcs_check_lines.specs.Formats.{if_chains, no_figures, unless_rows, written}

-- a number, if there is one
abbrev pub known : Option ℕ → Value
known None = empty
known (Some n) = amount n

-- a deadline; 0 means that there is none
abbrev pub deadline_known : ℕ → Value
deadline_known deadline = if deadline == 0 then empty else amount deadline

-- how many ticks before the deadline the worst response came; negative if it came after it
abbrev pub margin_value : Option Margin → Value
margin_value None = empty
margin_value (Some (Left ticks)) = amount ticks
margin_value (Some (Over ticks)) = below ticks

-- how many signals of its notification were lost, and how many merged
abbrev pub lost_value : Option Signals → Value
lost_value None = empty
lost_value (Some signals) = amount signals.lost

abbrev pub merged_value : Option Signals → Value
merged_value None = empty
merged_value (Some signals) = amount signals.merged

-- the figures of a thread
abbrev pub figure_fields : Figures → Fields
figure_fields f =
    (codes "core", amount f.core) ∷ (codes "priority", amount f.priority) ∷ (codes "budget", amount f.share.budget)
    ∷ (codes "period", amount f.share.period) ∷ (codes "granted", amount f.share.granted) ∷ (codes "used", amount f.share.used)
    ∷ (codes "rounds", amount f.rounds.ended) ∷ (codes "greatest", known f.rounds.greatest) ∷ (codes "p50", known f.rounds.fiftieth)
    ∷ (codes "p90", known f.rounds.ninetieth) ∷ (codes "p99", known f.rounds.ninety_ninth) ∷ (codes "deadline", deadline_known f.deadline)
    ∷ (codes "margin", margin_value f.margin) ∷ (codes "missed", amount f.rounds.missed) ∷ (codes "late", amount f.rounds.late)
    ∷ (codes "lost", lost_value f.signals) ∷ (codes "merged", merged_value f.signals) ∷ (codes "ticks_pending", amount f.stood.pending)
    ∷ (codes "ticks_ready", amount f.stood.ready) ∷ (codes "ticks_running", amount f.stood.running)
    ∷ (codes "ticks_throttled", amount f.stood.throttled) ∷ (codes "ticks_blocked", amount f.stood.blocked)
    ∷ (codes "ticks_server", amount f.stood.server) ∷ (codes "ticks_done", amount f.stood.done) ∷ []

abbrev pub thread_fields : System → ℕ → Figures → Fields
thread_fields system thread f =
    (codes "kind", name (codes "thread")) ∷ (codes "thread", name (thread_name system thread)) ∷ figure_fields f

-- the figure of a context
abbrev pub context_fields : System → ℕ → Option ℕ → Fields
context_fields system context unused =
    (codes "kind", name (codes "context")) ∷ (codes "context", name (context_name system context)) ∷ (codes "unused", known unused) ∷ []

-- a value as a word
abbrev pub value_word : Value → Text
value_word empty = codes "-"
value_word (listed texts) = joined false texts
value_word value = value_text value

-- each name, followed by its value
abbrev pub pair_words : Fields → List Text
pair_words fields = flat_map (λ f. f.0 ∷ value_word f.1 ∷ []) fields

abbrev pub thread_text : System → ℕ → Figures → Text
thread_text system thread f = line (codes "thread") (thread_name system thread ∷ pair_words (figure_fields f))

abbrev pub context_text : System → ℕ → Option ℕ → Text
context_text system context unused =
    line (codes "context") (context_name system context ∷ pair_words ((codes "unused", known unused) ∷ []))

abbrev pub thread_line : Format → System → ℕ → Figures → Text
thread_line how system thread f =
    written how (thread_text system thread f) (thread_fields system thread f ++ if_chains system.chains no_figures)

abbrev pub context_line : Format → System → ℕ → Option ℕ → Text
context_line how system context unused = unless_rows how (context_text system context unused) (context_fields system context unused)

-- the lines of the threads from number n on, by the rows up to the horizon, the latest first
abbrev pub thread_lines : Format → System → ℕ → List Row → ℕ → List ThreadPart → Text
thread_lines how system horizon past n [] = []
thread_lines how system horizon past n (part ∷ parts) =
    thread_line how system n (figures_of system horizon past n) ++ thread_lines how system horizon past (suc n) parts

-- the lines of the contexts from number n on
abbrev pub context_lines : Format → System → ℕ → List Row → ℕ → List ContextPart → Text
context_lines how system horizon past n [] = []
context_lines how system horizon past n (part ∷ parts) =
    context_line how system n (unused_of system horizon past n) ++ context_lines how system horizon past (suc n) parts

-- all lines of the table
abbrev pub table_lines : Format → System → ℕ → List Row → Text
table_lines how system horizon past =
    thread_lines how system horizon past 0 system.threads ++ context_lines how system horizon past 0 system.contexts
