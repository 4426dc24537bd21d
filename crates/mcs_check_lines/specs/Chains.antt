-- The lines of chains.
use Rattle.std.specs.Prelude.{ℕ, suc, nat_lt, if◌then◌else◌, List, [], ◌∷◌, ◌++◌, codes, decimal, drop, flat_map, fold, get_or}
use Rattle.mcs_fields.specs.Fields.{Text, Value, amount, empty, name}
use Rattle.mcs_system.specs.declared.part.ChainPart.{ChainPart}
use Rattle.mcs_system.specs.System.{System}
use Rattle.mcs_text.specs.Text.{counted, line}
use Rattle.mcs_chain.specs.declared.figures.Figures.{Figures}
use Rattle.mcs_chain.specs.declared.finding.Finding.{Finding}
use Rattle.mcs_chain.specs.declared.finding.Finding.TheVariants.{Slow, Unanswered}
use Rattle.mcs_chain.specs.declared.finding.Found.{Found}
use Rattle.mcs_check_words.specs.declared.asked.Format.{Format}
use Rattle.mcs_check_lines.specs.Fields.{Fields}
use Rattle.mcs_check_lines.specs.Names.{chain_name}
use Rattle.mcs_check_lines.specs.Figures.{deadline_known, known, margin_value, pair_words}
use Rattle.mcs_check_words.specs.declared.asked.Show.TheVariants as show
use Rattle.mcs_check_lines.specs.Formats.{column_names, empty_in, written}

-- a finding and its numbers
abbrev pub due_words : ℕ → ℕ → List Text
due_words deadline origin = counted ((codes "deadline", deadline) ∷ (codes "origin", origin) ∷ [])

abbrev pub chain_words : System → ℕ → Finding → List Text
chain_words system n (Slow latency deadline origin) =
    codes "slow" ∷ chain_name system n ∷ counted ((codes "latency", latency) ∷ []) ++ due_words deadline origin
chain_words system n (Unanswered deadline origin) = codes "unanswered" ∷ chain_name system n ∷ due_words deadline origin

-- the line of a finding: its time, its core and the finding
abbrev pub chain_found_text : System → Found → Text
chain_found_text system found = line (decimal found.moment) (decimal found.core ∷ chain_words system found.chain found.finding)

abbrev pub chain_kind : Finding → Text
chain_kind (Slow latency deadline origin) = codes "slow"
chain_kind (Unanswered deadline origin) = codes "unanswered"

abbrev pub latency_of : Finding → Value
latency_of (Slow latency deadline origin) = amount latency
latency_of (Unanswered deadline origin) = empty

abbrev pub chain_deadline : Finding → ℕ
chain_deadline (Slow latency deadline origin) = deadline
chain_deadline (Unanswered deadline origin) = deadline

abbrev pub origin_of : Finding → ℕ
origin_of (Slow latency deadline origin) = origin
origin_of (Unanswered deadline origin) = origin

-- a finding of a chain, with the columns of other findings empty
abbrev pub chain_found_fields : System → Found → Fields
chain_found_fields system found =
    (codes "moment", amount found.moment) ∷ (codes "core", amount found.core) ∷ (codes "kind", name (chain_kind found.finding))
    ∷ (codes "thread", empty) ∷ (codes "note", empty) ∷ (codes "word", empty) ∷ (codes "number", empty) ∷ (codes "response", empty)
    ∷ (codes "age", empty) ∷ (codes "deadline", empty) ∷ (codes "activated", empty) ∷ (codes "set", empty) ∷ (codes "queued", empty) ∷ (codes "ready", empty) ∷ (codes "running", empty)
    ∷ (codes "throttled", empty) ∷ (codes "blocked", empty) ∷ (codes "server", empty)
    ∷ (codes "chain", name (chain_name system found.chain)) ∷ (codes "latency", latency_of found.finding)
    ∷ (codes "deadline", amount (chain_deadline found.finding)) ∷ (codes "origin", amount (origin_of found.finding)) ∷ []

abbrev pub chain_found_line : Format → System → Found → Text
chain_found_line how system found = written how (chain_found_text system found) (chain_found_fields system found)

abbrev pub chain_found_lines : Format → System → List Found → Text
chain_found_lines how system found = flat_map (chain_found_line how system) found

-- the figures of a chain
abbrev pub chain_figures : Figures → Fields
chain_figures f =
    (codes "interrupts", amount f.interrupts) ∷ (codes "answers", amount f.answers) ∷ (codes "least", known f.least)
    ∷ (codes "greatest", known f.greatest) ∷ (codes "total", amount f.total) ∷ (codes "p50", known f.fiftieth)
    ∷ (codes "p90", known f.ninetieth) ∷ (codes "p99", known f.ninety_ninth) ∷ (codes "deadline", deadline_known f.deadline)
    ∷ (codes "margin", margin_value f.margin) ∷ []

-- the columns of chains, and before them those of threads, which are empty
abbrev pub own_fields : System → ℕ → Figures → Fields
own_fields system n f = (codes "chain", name (chain_name system n)) ∷ chain_figures f

abbrev pub no_thread : Fields
no_thread = empty_in (drop 1 (column_names show.Table))

abbrev pub chain_fields : System → ℕ → Figures → Fields
chain_fields system n f = (codes "kind", name (codes "chain")) ∷ no_thread ++ own_fields system n f

abbrev pub chain_text : System → ℕ → Figures → Text
chain_text system n f = line (codes "chain") (chain_name system n ∷ pair_words (chain_figures f))

abbrev pub chain_line : Format → System → ℕ → Figures → Text
chain_line how system n f = written how (chain_text system n f) (chain_fields system n f)

-- the figures of the chains from number n on
abbrev pub chain_lines : Format → System → ℕ → List Figures → Text
chain_lines how system n [] = []
chain_lines how system n (f ∷ figures) = chain_line how system n f ++ chain_lines how system (suc n) figures

-- a line and its time
abbrev pub Entry : Type 0
Entry = ℕ × Text

-- a line at its time, after all lines of that time and before
abbrev pub placed : Entry → List Entry → List Entry
placed entry [] = entry ∷ []
placed entry (first ∷ rest) = if nat_lt entry.0 first.0 then entry ∷ first ∷ rest else first ∷ placed entry rest

-- these lines, which are in order of time, with each of the others at its time
abbrev pub with_placed : List Entry → List Entry → Text
with_placed lines others = flat_map (λ entry. entry.1) (fold (λ all entry. placed entry all) lines others)
