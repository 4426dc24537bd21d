-- The span of rows that show why a round of a thread took so long, by the rows so far, the latest
-- first.
use Rattle.std.specs.Prelude.{ℕ, ◌==◌, ◌&&◌, Bool, true, false, nat_le, min, if◌then◌else◌, List, [], ◌∷◌, Option, Some, None}
use Rattle.mcs_ticks.specs.declared.row.Row.{Row}
use Rattle.mcs_system.specs.System.{System, thread_part, core_of}
use Rattle.mcs_verdict.specs.declared.job.Job.{Job}
use Rattle.mcs_verdict.specs.declared.standing.Standing.{Standing}
use Rattle.mcs_verdict.specs.declared.standing.Standing.TheVariants.{Blocked, Done}
use Rattle.mcs_verdict.specs.Standing.{telling}
use Rattle.mcs_verdict.specs.Rounds.{begun_of, activated_of, rounds_of}
use Rattle.mcs_verdict.specs.Misses.{word_set}
use Rattle.mcs_ticks.specs.Capped.{one_more}
use Rattle.mcs_verdict.specs.Jobs.{job_of}
use Rattle.mcs_verdict.specs.Account.{standing_of}
use Rattle.mcs_why.specs.declared.span.Span.{Span}
use Rattle.mcs_why.specs.declared.span.Sought.{Sought}
use Rattle.mcs_why.specs.declared.span.Sought.TheVariants.{There, Missing}
use Rattle.mcs_verdict.specs.Parts.{free}
use Rattle.mcs_why.specs.Waits.{stopped, waited_of}

-- a round's activation, or when its thread began to wait for the word that began it, if that is
-- earlier
abbrev pub from_of : ℕ → Option ℕ → ℕ
from_of activated None = activated
from_of activated (Some since) = min since activated

-- the span of a round that ended
abbrev pub span_of : ℕ → Option ℕ → Job → Span
span_of core waited job =
    record {
      thread = job.thread;
      number = job.number;
      core = core;
      from = from_of job.activated waited;
      to = job.ended;
      ended = true;
      activated = Some job.activated;
      begun = Some job.begun;
    }

-- if it is the one that is sought
abbrev pub is_sought : ℕ → ℕ → Job → Bool
is_sought thread number job = job.thread == thread && job.number == number

abbrev pub span_if : ℕ → ℕ → ℕ → Option ℕ → Option Job → Option Span
span_if thread number core waited None = None
span_if thread number core waited (Some job) = if is_sought thread number job then Some (span_of core waited job) else None

abbrev pub or_later : Option Span → Option Span → Option Span
or_later None later = later
or_later (Some span) later = Some span

-- the span of the round with this number, if it ended
abbrev pub span_in : System → ℕ → ℕ → List Row → Option Span
span_in system thread number [] = None
span_in system thread number (r ∷ past) =
    or_later (span_in system thread number past)
    (span_if thread number (core_of system (thread_part system thread)) (waited_of system thread past) (job_of system past r.moment r.what))

-- the span of a round under way begins as above, or at its beginning if it is not activated yet
abbrev pub from_begun : ℕ → Option ℕ → Option ℕ → ℕ
from_begun begun None waited = begun
from_begun begun (Some activated) waited = from_of activated waited

-- a held word activates the next round, if there is one to come
abbrev pub to_begin : Standing → Option ℕ → Option ℕ
to_begin Done set = None
to_begin _ set = set

-- when the thread began to wait
abbrev pub waits_since : Standing → Option ℕ → Option ℕ
waits_since Blocked stopped = stopped
waits_since _ stopped = None

-- when the thread began to proceed to its wait; a thread whose last round ended has nothing more to
-- do
abbrev pub comes_since : Standing → ℕ → Option ℕ
comes_since Done free = None
comes_since _ free = Some free

-- the thread's round after the last one that ended, which has not ended at the horizon
abbrev pub open_span : ℕ → ℕ → ℕ → ℕ → ℕ → Option ℕ → Option ℕ → Span
open_span thread core before horizon from activated begun =
    record {
      thread = thread;
      number = one_more before;
      core = core;
      from = from;
      to = horizon;
      ended = false;
      activated = activated;
      begun = begun;
    }

-- it is under way, its word is held, its thread waits for the word, or its thread proceeds to the
-- wait by the horizon
abbrev pub open_by : ℕ → ℕ → ℕ → ℕ → Option ℕ → Option ℕ → Option ℕ → Option ℕ → Option ℕ → Option ℕ → Option Span
open_by thread core before horizon (Some begun) activated waited set since comes =
    if nat_le begun horizon
    then Some (open_span thread core before horizon (from_begun begun activated waited) activated (Some begun))
    else None
open_by thread core before horizon None activated waited (Some set) since comes =
    Some (open_span thread core before horizon set (Some set) None)
open_by thread core before horizon None activated waited None (Some since) comes =
    Some (open_span thread core before horizon since None None)
open_by thread core before horizon None activated waited None None (Some comes) =
    if nat_le comes horizon then Some (open_span thread core before horizon comes None None) else None
open_by thread core before horizon None activated waited None None None = None

-- the span of the thread's round that has not ended at the horizon, if there is one
abbrev pub open_of : System → ℕ → List Row → ℕ → Option Span
open_of system horizon past thread =
    let part = thread_part system thread in
    let standing = standing_of (telling thread past) in
    open_by thread (core_of system part) (rounds_of thread past) horizon (begun_of system thread past)
    (activated_of system thread past horizon) (waited_of system thread past)
    (to_begin standing (word_set system past thread)) (waits_since standing (stopped thread past)) (comes_since standing (free part.start thread past))

-- the span if it is the round with this number, else how many rounds there are
abbrev pub open_if : ℕ → ℕ → Option Span → Sought
open_if number before None = Missing before
open_if number before (Some span) = if span.number == number then There span else Missing span.number

abbrev pub sought_by : ℕ → ℕ → Option Span → Option Span → Sought
sought_by number before None unended = open_if number before unended
sought_by number before (Some span) unended = There span

-- the round of the thread with this number
abbrev pub sought : System → ℕ → List Row → ℕ → ℕ → Sought
sought system horizon past thread number =
    sought_by number (rounds_of thread past) (span_in system thread number past) (open_of system horizon past thread)
