-- The lines of findings, jobs, counts and hints, as text.
use Rattle.std.specs.Prelude.{ℕ, false, List, [], ◌∷◌, ◌++◌, codes, decimal, map, Option, Some, None}
use Rattle.mcs_fields.specs.Fields.{joined}
use Rattle.mcs_system.specs.System.{System, core_of, thread_part}
use Rattle.mcs_text.specs.Text.{context_name, counted, line, note_name, source_name, thread_name}
use Rattle.mcs_hints.specs.declared.hint.Hint.{Hint}
use Rattle.mcs_hints.specs.declared.hint.Hint.TheVariants.{NoThread, NoDeadline, Unsignalled, Unawaited, Unhandled, Unheard, Inverted, Unreached, Unbound, Unused, Overcommitted}
use Rattle.mcs_verdict.specs.declared.finding.Finding.{Finding}
use Rattle.mcs_verdict.specs.declared.finding.Finding.TheVariants.{Miss, Overdue, Untaken, Lost, Never}
use Rattle.mcs_verdict.specs.declared.finding.Found.{Found}
use Rattle.mcs_verdict.specs.declared.job.Job.{Job}
use Rattle.mcs_verdict.specs.declared.standing.Stood.{Stood}
use Rattle.mcs_verdict.specs.Takers.{takers}
use Rattle.mcs_check_lines.specs.declared.checked.ChainCounts.{ChainCounts}
use Rattle.mcs_check_lines.specs.declared.checked.Checked.{Checked}
use Rattle.mcs_check_lines.specs.declared.checked.Scope.{Scope}
use Rattle.mcs_check_lines.specs.declared.counts.Counts.{Counts}
use Rattle.mcs_check_lines.specs.Names.{chain_name}

-- how a thread stood in the parts of its round
abbrev pub ways : Stood → List (List ℕ × ℕ)
ways stood =
    (codes "ready", stood.ready) ∷ (codes "running", stood.running) ∷ (codes "throttled", stood.throttled)
    ∷ (codes "blocked", stood.blocked) ∷ (codes "server", stood.server) ∷ []

-- a round's deadline, its activation and its parts: how long it was queued, and how the thread
-- stood
abbrev pub late_words : ℕ → ℕ → ℕ → Stood → List (List ℕ)
late_words deadline activated queued stood =
    counted ((codes "deadline", deadline) ∷ (codes "activated", activated) ∷ (codes "queued", queued) ∷ ways stood)

-- the number of a round and its response
abbrev pub response_words : ℕ → ℕ → List (List ℕ)
response_words number response = counted ((codes "round", number) ∷ (codes "response", response) ∷ [])

-- the number of a round under way, and the ticks since its activation
abbrev pub age_words : ℕ → ℕ → List (List ℕ)
age_words number age = counted ((codes "round", number) ∷ (codes "age", age) ∷ [])

-- the names of the threads that may take a word of the notification, in the order of the file
abbrev pub taker_names : System → ℕ → List (List ℕ)
taker_names system note = map (λ part. part.name) (takers note system.threads)

-- a word, the ticks since it was set, its deadline, and when it was set
abbrev pub held_words : ℕ → ℕ → ℕ → ℕ → List (List ℕ)
held_words word age deadline set =
    counted ((codes "word", word) ∷ (codes "age", age) ∷ (codes "deadline", deadline) ∷ (codes "set", set) ∷ [])

-- a finding and its numbers
abbrev pub found_words : System → Finding → List (List ℕ)
found_words system (Miss thread number response deadline activated queued stood) =
    codes "miss" ∷ thread_name system thread ∷ response_words number response ++ late_words deadline activated queued stood
found_words system (Overdue thread number age deadline activated queued stood) =
    codes "overdue" ∷ thread_name system thread ∷ age_words number age ++ late_words deadline activated queued stood
found_words system (Untaken note word age deadline set) =
    codes "untaken" ∷ note_name system note ∷ codes "by" ∷ joined false (taker_names system note) ∷ held_words word age deadline set
found_words system (Lost note word) = codes "lost" ∷ note_name system note ∷ counted ((codes "word", word) ∷ [])
found_words system (Never thread deadline) = codes "never" ∷ thread_name system thread ∷ counted ((codes "deadline", deadline) ∷ [])

-- the line of a finding: its time, its core and the finding
abbrev pub found_text : System → Found → List ℕ
found_text system found = line (decimal found.moment) (decimal found.core ∷ found_words system found.finding)

-- the number of a job and its times: activation, beginning, response and parts, with its preemptions
abbrev pub job_times : Job → List (List ℕ)
job_times job =
    counted ((codes "round", job.number) ∷ (codes "activated", job.activated) ∷ (codes "begun", job.begun) ∷ (codes "response", job.response)
    ∷ (codes "queued", job.queued) ∷ (codes "preemptions", job.preemptions) ∷ ways job.stood)

-- a job: its thread, its number and these times
abbrev pub job_words : System → Job → List (List ℕ)
job_words system job = codes "job" ∷ thread_name system job.thread ∷ job_times job

-- the line of a job: its end, its thread's core and the job
abbrev pub job_text : System → Job → List ℕ
job_text system job = line (decimal job.ended) (decimal (core_of system (thread_part system job.thread)) ∷ job_words system job)

-- the counts behind the first word, and those of chains, if the file has a chain
abbrev pub counts_words : Counts → Scope → List (List ℕ)
counts_words counts scope =
    decimal counts.missed ∷ counted ((codes "overdue", counts.overdue) ∷ (codes "untaken", counts.untaken) ∷ (codes "lost", counts.lost)
    ∷ (codes "never", counts.never) ∷ (codes "merged", counts.merged) ∷ (codes "allowed", counts.allowed)
    ∷ (codes "unjudged", scope.unjudged) ∷ (codes "hints", counts.hints) ∷ (codes "threads", scope.threads)
    ∷ (codes "deadlines", scope.deadlines) ∷ (codes "judged", scope.judged) ∷ [])

abbrev pub chain_count_words : Option ChainCounts → List (List ℕ)
chain_count_words None = []
chain_count_words (Some chains) = counted ((codes "slow", chains.slow) ∷ (codes "unanswered", chains.unanswered) ∷ [])

-- the line of the counts
abbrev pub checked_text : Checked → List ℕ
checked_text checked = line (codes "missed") (counts_words checked.counts checked.scope ++ chain_count_words checked.chains)

-- what posts a badge to a notification, if no handler takes it
abbrev pub untaken_words : List ℕ → List ℕ → ℕ → List (List ℕ)
untaken_words posts note badge =
    posts ∷ note ∷ counted ((codes "with badge", badge) ∷ []) ++ codes "and no handler takes it" ∷ []

-- a call of a server
abbrev pub call_words : List ℕ → ℕ → ℕ → List (List ℕ)
call_words server priority caller =
    codes "calls" ∷ server ∷ counted ((codes "of priority", priority) ∷ (codes "at priority", caller) ∷ [])

-- a chain that no signal can complete
abbrev pub unreached_words : List ℕ → List ℕ → List ℕ → List (List ℕ)
unreached_words chain source thread =
    codes "chain" ∷ (chain ++ codes ":") ∷ codes "no signal leads from" ∷ source ∷ codes "to" ∷ thread ∷ []

-- the subject of a hint and its reason
abbrev pub hint_words : System → Hint → List (List ℕ)
hint_words system NoThread = codes "no thread" ∷ []
hint_words system NoDeadline = codes "no thread has a deadline" ∷ []
hint_words system (Unsignalled note) = codes "note" ∷ note_name system note ∷ codes "is waited on and no script signals it" ∷ []
hint_words system (Unawaited source note) =
    codes "source" ∷ source_name system source ∷ codes "interrupts on" ∷ note_name system note ∷ codes "and no script waits on it" ∷ []
hint_words system (Unhandled source note badge) =
    codes "source" ∷ source_name system source ∷ untaken_words (codes "interrupts on") (note_name system note) badge
hint_words system (Unheard thread note badge) =
    codes "thread" ∷ thread_name system thread ∷ untaken_words (codes "signals") (note_name system note) badge
hint_words system (Inverted thread server priority caller) =
    codes "thread" ∷ thread_name system thread ∷ call_words (note_name system server) priority caller
hint_words system (Unreached chain source thread) =
    unreached_words (chain_name system chain) (source_name system source) (thread_name system thread)
hint_words system (Unbound context) = codes "context" ∷ context_name system context ∷ codes "has no thread" ∷ []
hint_words system (Unused core) = counted ((codes "core", core) ∷ []) ++ codes "has no thread" ∷ []
hint_words system (Overcommitted core millionths) =
    counted ((codes "core", core) ∷ (codes "grants", millionths) ∷ []) ++ codes "of 1000000" ∷ []

-- the line of a hint
abbrev pub hint_text : System → Hint → List ℕ
hint_text system hint = line (codes "hint") (hint_words system hint)
