-- Findings, jobs, counts and hints as named values.
use Rattle.std.specs.Prelude.{ℕ, List, [], ◌∷◌, ◌++◌, codes, Option, Some, None}
use Rattle.mcs_fields.specs.Fields.{Text, Value, amount, empty, listed, name}
use Rattle.mcs_system.specs.System.{System, core_of, thread_part}
use Rattle.mcs_text.specs.Text.{context_name, note_name, source_name, thread_name}
use Rattle.mcs_hints.specs.declared.hint.Hint.{Hint}
use Rattle.mcs_hints.specs.declared.hint.Hint.TheVariants.{NoThread, NoDeadline, Unsignalled, Unawaited, Unhandled, Unheard, Inverted, Unreached, Unbound, Unused, Overcommitted}
use Rattle.mcs_verdict.specs.declared.finding.Finding.{Finding}
use Rattle.mcs_verdict.specs.declared.finding.Finding.TheVariants.{Miss, Overdue, Untaken, Lost, Never}
use Rattle.mcs_verdict.specs.declared.finding.Found.{Found}
use Rattle.mcs_verdict.specs.declared.job.Job.{Job}
use Rattle.mcs_verdict.specs.declared.standing.Stood.{Stood}
use Rattle.mcs_check_lines.specs.declared.checked.ChainCounts.{ChainCounts}
use Rattle.mcs_check_lines.specs.declared.checked.Checked.{Checked}
use Rattle.mcs_check_lines.specs.declared.checked.Scope.{Scope}
use Rattle.mcs_check_lines.specs.declared.counts.Counts.{Counts}
use Rattle.mcs_check_lines.specs.Lines.{taker_names}
use Rattle.mcs_check_lines.specs.Names.{chain_name}

abbrev pub Fields : Type 0
Fields = List (Text × Value)

-- how a thread stood in the parts of its round
abbrev pub way_fields : Stood → Fields
way_fields stood =
    (codes "ready", amount stood.ready) ∷ (codes "running", amount stood.running) ∷ (codes "throttled", amount stood.throttled)
    ∷ (codes "blocked", amount stood.blocked) ∷ (codes "server", amount stood.server) ∷ []

-- a job, in the order of its line
abbrev pub job_fields : System → Job → Fields
job_fields system job =
    (codes "moment", amount job.ended) ∷ (codes "core", amount (core_of system (thread_part system job.thread)))
    ∷ (codes "kind", name (codes "job")) ∷ (codes "thread", name (thread_name system job.thread)) ∷ (codes "number", amount job.number)
    ∷ (codes "activated", amount job.activated) ∷ (codes "begun", amount job.begun) ∷ (codes "response", amount job.response)
    ∷ (codes "queued", amount job.queued) ∷ (codes "preemptions", amount job.preemptions) ∷ way_fields job.stood

-- the kind of a finding
abbrev pub kind_of : Finding → Text
kind_of (Miss thread number response deadline activated queued stood) = codes "miss"
kind_of (Overdue thread number age deadline activated queued stood) = codes "overdue"
kind_of (Untaken note word age deadline set) = codes "untaken"
kind_of (Lost note word) = codes "lost"
kind_of (Never thread deadline) = codes "never"

-- the values that it has
abbrev pub thread_of : System → Finding → Value
thread_of system (Miss thread number response deadline activated queued stood) = name (thread_name system thread)
thread_of system (Overdue thread number age deadline activated queued stood) = name (thread_name system thread)
thread_of system (Untaken note word age deadline set) = empty
thread_of system (Lost note word) = empty
thread_of system (Never thread deadline) = name (thread_name system thread)

abbrev pub note_of : System → Finding → Value
note_of system (Untaken note word age deadline set) = name (note_name system note)
note_of system (Lost note word) = name (note_name system note)
note_of system _ = empty

abbrev pub word_of : Finding → Value
word_of (Untaken note word age deadline set) = amount word
word_of (Lost note word) = amount word
word_of _ = empty

abbrev pub number_of : Finding → Value
number_of (Miss thread number response deadline activated queued stood) = amount number
number_of (Overdue thread number age deadline activated queued stood) = amount number
number_of _ = empty

abbrev pub response_of : Finding → Value
response_of (Miss thread number response deadline activated queued stood) = amount response
response_of _ = empty

-- the ticks since a round was activated, or a word set
abbrev pub age_of : Finding → Value
age_of (Overdue thread number age deadline activated queued stood) = amount age
age_of (Untaken note word age deadline set) = amount age
age_of _ = empty

abbrev pub deadline_of : Finding → Value
deadline_of (Miss thread number response deadline activated queued stood) = amount deadline
deadline_of (Overdue thread number age deadline activated queued stood) = amount deadline
deadline_of (Untaken note word age deadline set) = amount deadline
deadline_of (Lost note word) = empty
deadline_of (Never thread deadline) = amount deadline

-- a number that only misses and overdue rounds have
abbrev pub of_late : (ℕ → ℕ → Stood → ℕ) → Finding → Value
of_late number (Miss thread _ response deadline activated queued stood) = amount (number activated queued stood)
of_late number (Overdue thread _ age deadline activated queued stood) = amount (number activated queued stood)
of_late number _ = empty

-- when the word was set that nobody has taken, and the threads that may take it
abbrev pub set_of : Finding → Value
set_of (Untaken note word age deadline set) = amount set
set_of _ = empty

abbrev pub by_of : System → Finding → Value
by_of system (Untaken note word age deadline set) = listed (taker_names system note)
by_of system _ = empty

-- a finding, with these values behind its notification
abbrev pub found_with : Fields → System → Found → Fields
found_with more system found =
    let f = found.finding in
    (codes "moment", amount found.moment) ∷ (codes "core", amount found.core) ∷ (codes "kind", name (kind_of f))
    ∷ (codes "thread", thread_of system f) ∷ (codes "note", note_of system f) ∷ more
    ++ (codes "word", word_of f) ∷ (codes "number", number_of f) ∷ (codes "response", response_of f) ∷ (codes "age", age_of f)
    ∷ (codes "deadline", deadline_of f)
    ∷ (codes "activated", of_late (λ activated queued stood. activated) f)
    ∷ (codes "set", set_of f)
    ∷ (codes "queued", of_late (λ activated queued stood. queued) f)
    ∷ (codes "ready", of_late (λ activated queued stood. stood.ready) f)
    ∷ (codes "running", of_late (λ activated queued stood. stood.running) f)
    ∷ (codes "throttled", of_late (λ activated queued stood. stood.throttled) f)
    ∷ (codes "blocked", of_late (λ activated queued stood. stood.blocked) f)
    ∷ (codes "server", of_late (λ activated queued stood. stood.server) f) ∷ []

-- a finding in a row
abbrev pub found_fields : System → Found → Fields
found_fields system found = found_with [] system found

-- a finding as an object, which can list threads
abbrev pub found_members : System → Found → Fields
found_members system found = found_with ((codes "by", by_of system found.finding) ∷ []) system found

-- the counts
abbrev pub counts_fields : Counts → Scope → Fields
counts_fields counts scope =
    (codes "kind", name (codes "counts")) ∷ (codes "missed", amount counts.missed) ∷ (codes "overdue", amount counts.overdue)
    ∷ (codes "untaken", amount counts.untaken) ∷ (codes "lost", amount counts.lost) ∷ (codes "never", amount counts.never) ∷ (codes "merged", amount counts.merged)
    ∷ (codes "allowed", amount counts.allowed) ∷ (codes "unjudged", amount scope.unjudged) ∷ (codes "hints", amount counts.hints)
    ∷ (codes "threads", amount scope.threads) ∷ (codes "deadlines", amount scope.deadlines) ∷ (codes "judged", amount scope.judged) ∷ []

abbrev pub chain_count_fields : Option ChainCounts → Fields
chain_count_fields None = []
chain_count_fields (Some chains) = (codes "slow", amount chains.slow) ∷ (codes "unanswered", amount chains.unanswered) ∷ []

abbrev pub checked_fields : Checked → Fields
checked_fields checked = counts_fields checked.counts checked.scope ++ chain_count_fields checked.chains

-- a source whose badge no handler takes
abbrev pub unhandled_fields : List ℕ → List ℕ → ℕ → Fields
unhandled_fields source note badge =
    (codes "kind", name (codes "hint")) ∷ (codes "hint", name (codes "unhandled")) ∷ (codes "source", name source)
    ∷ (codes "note", name note) ∷ (codes "badge", amount badge) ∷ []

-- a thread's signal whose badge no handler takes
abbrev pub unheard_fields : List ℕ → List ℕ → ℕ → Fields
unheard_fields thread note badge =
    (codes "kind", name (codes "hint")) ∷ (codes "hint", name (codes "unheard")) ∷ (codes "thread", name thread)
    ∷ (codes "note", name note) ∷ (codes "badge", amount badge) ∷ []

-- a call of a server at a priority that is not below the server's
abbrev pub call_fields : List ℕ → List ℕ → ℕ → ℕ → Fields
call_fields thread server priority caller =
    (codes "kind", name (codes "hint")) ∷ (codes "hint", name (codes "inverted")) ∷ (codes "thread", name thread)
    ∷ (codes "server", name server) ∷ (codes "priority", amount priority) ∷ (codes "caller", amount caller) ∷ []

-- a chain that no signal can complete
abbrev pub unreached_fields : List ℕ → List ℕ → List ℕ → Fields
unreached_fields chain source thread =
    (codes "kind", name (codes "hint")) ∷ (codes "hint", name (codes "unreached")) ∷ (codes "chain", name chain)
    ∷ (codes "source", name source) ∷ (codes "thread", name thread) ∷ []

-- a hint
abbrev pub hint_fields : System → Hint → Fields
hint_fields system NoThread = (codes "kind", name (codes "hint")) ∷ (codes "hint", name (codes "no_thread")) ∷ []
hint_fields system NoDeadline = (codes "kind", name (codes "hint")) ∷ (codes "hint", name (codes "no_deadline")) ∷ []
hint_fields system (Unsignalled note) =
    (codes "kind", name (codes "hint")) ∷ (codes "hint", name (codes "unsignalled")) ∷ (codes "note", name (note_name system note)) ∷ []
hint_fields system (Unawaited source note) =
    (codes "kind", name (codes "hint")) ∷ (codes "hint", name (codes "unawaited")) ∷ (codes "source", name (source_name system source))
    ∷ (codes "note", name (note_name system note)) ∷ []
hint_fields system (Unhandled source note badge) = unhandled_fields (source_name system source) (note_name system note) badge
hint_fields system (Unheard thread note badge) = unheard_fields (thread_name system thread) (note_name system note) badge
hint_fields system (Inverted thread server priority caller) = call_fields (thread_name system thread) (note_name system server) priority caller
hint_fields system (Unreached chain source thread) =
    unreached_fields (chain_name system chain) (source_name system source) (thread_name system thread)
hint_fields system (Unbound context) =
    (codes "kind", name (codes "hint")) ∷ (codes "hint", name (codes "unbound")) ∷ (codes "context", name (context_name system context)) ∷ []
hint_fields system (Unused core) =
    (codes "kind", name (codes "hint")) ∷ (codes "hint", name (codes "unused")) ∷ (codes "core", amount core) ∷ []
hint_fields system (Overcommitted core millionths) =
    (codes "kind", name (codes "hint")) ∷ (codes "hint", name (codes "overcommitted")) ∷ (codes "core", amount core)
    ∷ (codes "grants", amount millionths) ∷ []
