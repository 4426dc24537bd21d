-- The account of a round: its times, and who ran meanwhile.
use Rattle.std.specs.Prelude.{ℕ, suc, ◌-◌, ◌==◌, if◌then◌else◌, List, [], ◌∷◌, ◌++◌, codes, unwrap_or}
use Rattle.mcs_ticks.specs.declared.row.Row.{Row}
use Rattle.mcs_fields.specs.Fields.{Text, Value, amount, empty, name}
use Rattle.mcs_system.specs.declared.part.ThreadPart.{ThreadPart}
use Rattle.mcs_system.specs.System.{System}
use Rattle.mcs_text.specs.Text.{counted, line, thread_name}
use Rattle.mcs_why.specs.declared.span.Span.{Span}
use Rattle.mcs_why.specs.Running.{idle_in, ran_in}
use Rattle.mcs_check_words.specs.declared.asked.Format.{Format}
use Rattle.mcs_check_lines.specs.Fields.{Fields}
use Rattle.mcs_check_lines.specs.Figures.{known, pair_words}
use Rattle.mcs_check_lines.specs.Formats.{written}

-- how long the thread waited for the word that begins the round
abbrev pub waited : Span → ℕ
waited span = unwrap_or span.activated (unwrap_or span.begun span.to) - span.from

-- when the round ended, if it did
abbrev pub ended_of : Span → Value
ended_of span = if span.ended then amount span.to else empty

-- the number of a round, which has this label, and its times: the span of its rows, and what happened
-- in it
abbrev pub told_fields : Text → Span → Fields
told_fields label span =
    (label, amount span.number) ∷ (codes "from", amount span.from) ∷ (codes "to", amount span.to) ∷ (codes "waited", amount (waited span))
    ∷ (codes "activated", known span.activated) ∷ (codes "begun", known span.begun) ∷ (codes "ended", ended_of span) ∷ []

abbrev pub span_fields : System → Text → Span → Fields
span_fields system label span =
    (codes "kind", name (codes "why")) ∷ (codes "thread", name (thread_name system span.thread)) ∷ told_fields label span

abbrev pub span_text : System → Span → Text
span_text system span = line (codes "why") (thread_name system span.thread ∷ pair_words (told_fields (codes "round") span))

abbrev pub span_line : Format → System → Span → Text
span_line how system span = written how (span_text system span) (span_fields system (codes "number") span)

-- a number of ticks
abbrev pub tick_words : ℕ → List Text
tick_words ticks = counted ((codes "ticks", ticks) ∷ [])

-- how long a thread ran
abbrev pub ran_fields : System → ℕ → ℕ → Fields
ran_fields system thread ticks =
    (codes "kind", name (codes "ran")) ∷ (codes "thread", name (thread_name system thread)) ∷ (codes "ticks", amount ticks) ∷ []

abbrev pub told_ran : Format → System → ℕ → ℕ → Text
told_ran how system thread ticks =
    written how (line (codes "ran") (thread_name system thread ∷ tick_words ticks)) (ran_fields system thread ticks)

abbrev pub ran_line : Format → System → ℕ → ℕ → Text
ran_line how system thread ticks = if ticks == 0 then [] else told_ran how system thread ticks

-- the threads from number n on that ran in a span of a core
abbrev pub ran_lines : Format → System → ℕ → List Row → ℕ → ℕ → ℕ → List ThreadPart → Text
ran_lines how system core past from to n [] = []
ran_lines how system core past from to n (part ∷ parts) =
    ran_line how system n (ran_in core n past from to) ++ ran_lines how system core past from to (suc n) parts

-- how long the core was idle
abbrev pub idle_fields : ℕ → Fields
idle_fields ticks = (codes "kind", name (codes "idle")) ∷ (codes "ticks", amount ticks) ∷ []

abbrev pub idle_line : Format → ℕ → Text
idle_line how ticks = written how (line (codes "idle") (tick_words ticks)) (idle_fields ticks)

-- the round's times, how long each thread ran meanwhile, and how long the core was idle
abbrev pub account_lines : Format → System → Span → List Row → Text
account_lines how system span past =
    span_line how system span ++ ran_lines how system span.core past span.from span.to 0 system.threads
    ++ idle_line how (idle_in span.core past span.from span.to)
