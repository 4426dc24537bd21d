-- The lines of a check for all time, in words.
use Rattle.std.specs.Prelude.{ℕ, Bool, true, false, Option, Some, None, List, [], ◌∷◌, ◌++◌, codes, decimal, map}
use Rattle.std.specs.List.{filter, join_with_byte, range_with_len}
use Rattle.mcs_fields.specs.Fields.{Text, joined}
use Rattle.mcs_system.specs.System.{System}
use Rattle.mcs_text.specs.Text.{after, counted, line, note_name, thread_name}
use Rattle.mcs_verdict.specs.Takers.{takers}
use Rattle.mcs_ever.specs.Closed.{has}
use Rattle.mcs_ever_told.specs.declared.line.Line.{Line}
use Rattle.mcs_ever_told.specs.declared.line.Line.TheVariants as line
use Rattle.mcs_ever_told.specs.declared.line.Often.{Often}
use Rattle.mcs_ever_told.specs.declared.line.Totals.{Totals}
use Rattle.mcs_ever_told.specs.declared.line.Often.TheVariants.{Forever, SoFar}

-- those cores of a set that the system has, in rising order, with a space between two of them
abbrev pub cores_text : System → List Bool → Text
cores_text system set = join_with_byte 32 (map decimal (filter (has set) (range_with_len 0 system.cores)))

-- the names of the threads that may take a word of the notification, in the order of the file
abbrev pub taker_names : System → ℕ → List Text
taker_names system note = map (λ part. part.name) (takers note system.threads)

-- a name and a colon
abbrev pub named : Text → Text
named name = name ++ codes ":"

-- how often something is found
abbrev pub often_words : Often → List Text
often_words (Forever before each_period) = decimal each_period ∷ codes "in each period," ∷ decimal before ∷ codes "before" ∷ []
often_words (SoFar times) = decimal times ∷ codes "so far" ∷ []

-- a number; `-` for none
abbrev pub known_word : Option ℕ → Text
known_word None = codes "-"
known_word (Some n) = decimal n

-- that a thread never stops with its budget exhausted, if that is so
abbrev pub throttled_text : Bool → Text
throttled_text false = []
throttled_text true = codes ", throttled: never"

-- the time from which on a thread ends no round, if there is one
abbrev pub silent_text : Option ℕ → Text
silent_text None = []
silent_text (Some moment) = codes ", ends no round from" ++ after (decimal moment ∷ codes "on" ∷ [])

-- how much was looked at and found, after the first word
abbrev pub totals_words : Totals → List Text
totals_words totals =
    decimal totals.sets ∷ counted ((codes "repeating", totals.repeating) ∷ (codes "findings", totals.findings)
    ∷ (codes "threads", totals.threads) ∷ (codes "deadlines", totals.deadlines) ∷ [])

abbrev pub words_text : System → Line → Text
words_text system (line.Repeats cores from period) =
    line (codes "cores") (named (cores_text system cores) ∷ codes "repeats from" ∷ decimal from ∷ codes "with period" ∷ decimal period ∷ [])
words_text system (line.Open cores horizon) =
    line (codes "cores") (named (cores_text system cores) ∷ codes "no repetition found up to" ∷ decimal horizon ∷ [])
words_text system (line.Miss thread often) = line (codes "miss") (named (thread_name system thread) ∷ often_words often)
words_text system (line.Lost note often) = line (codes "lost") (named (note_name system note) ∷ often_words often)
words_text system (line.Overdue thread moment) = line (codes "overdue") (thread_name system thread ∷ codes "at" ∷ decimal moment ∷ [])
words_text system (line.Never thread moment) = line (codes "never") (thread_name system thread ∷ codes "up to" ∷ decimal moment ∷ [])
words_text system (line.Untaken note moment) = line (codes "untaken") (note_name system note ∷ codes "at" ∷ decimal moment ∷ [])
words_text system (line.Endless thread number activated) =
    line (codes "overdue") (thread_name system thread ∷ codes "round" ∷ decimal number ∷ codes "activated" ∷ decimal activated ∷ codes "for ever" ∷ [])
words_text system (line.Inactive thread) = line (codes "never") (thread_name system thread ∷ codes "for ever" ∷ [])
words_text system (line.Abandoned note word set) =
    line (codes "untaken") (note_name system note ∷ codes "by" ∷ joined false (taker_names system note) ∷ codes "word" ∷ decimal word
    ∷ codes "set" ∷ decimal set ∷ codes "for ever" ∷ [])
words_text system (line.Thread thread greatest never_throttled silent_from) =
    line (codes "thread") (named (thread_name system thread) ∷ codes "greatest response"
    ∷ (known_word greatest ++ throttled_text never_throttled ++ silent_text silent_from) ∷ [])
words_text system (line.Computes thread never_throttled) =
    line (codes "thread") (named (thread_name system thread) ∷ (codes "computes without end" ++ throttled_text never_throttled) ∷ [])
words_text system (line.ThreadSoFar thread greatest) =
    line (codes "thread") (named (thread_name system thread) ∷ codes "greatest response" ∷ known_word greatest ∷ codes "so far" ∷ [])
words_text system (line.Clean cores) = line (codes "nothing is ever found") []
words_text system (line.Sets totals) = line (codes "sets") (totals_words totals)
