-- The account of a thread: a few numbers that replace the rows so far.
use Rattle.std.specs.Prelude.{ℕ, ◌+◌, ◌-◌, max, Bool, true, false, ◌==◌, ◌&&◌, nat_lt, nat_le, if◌then◌else◌, List, [], ◌∷◌, Option, Some, None}
use Rattle.mcs_ticks.specs.Capped.{one_more}
use Rattle.mcs_ticks.specs.declared.row.Row.{Row}
use Rattle.mcs_ticks.specs.declared.row.What.{What}
use Rattle.mcs_ticks.specs.declared.row.What.TheVariants as row
use Rattle.mcs_ticks.specs.declared.row.Why.TheVariants as why
use Rattle.mcs_system.specs.declared.part.ThreadPart.{ThreadPart}
use Rattle.mcs_verdict.specs.declared.account.Account.{Account}
use Rattle.mcs_verdict.specs.declared.finding.Finding.{Finding}
use Rattle.mcs_verdict.specs.declared.held.Held.{Held}
use Rattle.mcs_verdict.specs.declared.job.Job.{Job}
use Rattle.mcs_verdict.specs.declared.standing.Standing.{Standing}
use Rattle.mcs_verdict.specs.declared.standing.Standing.TheVariants.{Pending}
use Rattle.mcs_verdict.specs.declared.standing.Stood.{Stood}
use Rattle.mcs_verdict.specs.Activation.{is_active, first_for}
use Rattle.mcs_verdict.specs.Standing.{tells, telling, standing_after}
use Rattle.mcs_verdict.specs.Stood.{no_ticks, counted, all_ticks, stood_for}
use Rattle.mcs_verdict.specs.Calls.{bits_of}
use Rattle.mcs_verdict.specs.Rounds.{first_wait, begun_at, begun, begins_round, called, activated_by, rounds_of}
use Rattle.mcs_verdict.specs.Parts.{free, counted_from}
use Rattle.mcs_verdict.specs.Words.{word_for}
use Rattle.mcs_verdict.specs.Jobs.{with_preemption, preemptions, or_now, ended}
use Rattle.mcs_verdict.specs.Misses.{missed, overdue_at, was_activated, never_at, first_of}

-- how the thread stands by its latest telling row, the time of that row, and how it stood up to it
abbrev pub standing_of : List Row → Standing
standing_of [] = Pending
standing_of (r ∷ rows) = standing_after r.what

abbrev pub since_of : List Row → ℕ
since_of [] = 0
since_of (r ∷ rows) = r.moment

abbrev pub stood_of : Option ℕ → List Row → Stood
stood_of None rows = no_ticks
stood_of (Some from) [] = no_ticks
stood_of (Some from) (r ∷ rows) = stood_for rows from (r.moment - from)

-- when it was first ready or running, up to the latest telling row
abbrev pub active_of : Option ℕ → List Row → Option ℕ
active_of None rows = None
active_of (Some from) [] = None
active_of (Some from) (r ∷ rows) = first_for rows from (r.moment - from)

-- the rows before the latest telling row of the thread
abbrev pub before_telling : ℕ → List Row → List Row
before_telling thread [] = []
before_telling thread (r ∷ past) = if tells thread r.what then past else before_telling thread past

-- from when the ticks of a round are counted: of the one under way; if none is, of the one that would
-- begin with the word that was set at `set`, if the script begins with a wait
abbrev pub counting : Option ℕ → Option ℕ → ℕ → Option ℕ → Option ℕ → ℕ → Option ℕ
counting (Some note) (Some begun) free called active set = counted_from free called
counting (Some note) None free called active set = counted_from free (Some set)
counting None begun free called active set = counted_from free active

-- when the word for which it waits first was set, by the rows before its latest telling row
abbrev pub set_before : List Held → Option ℕ → ℕ → List Row → ℕ
set_before firsts waits thread past = (word_for firsts waits (before_telling thread past)).since

-- the account of a thread whose round began at `began`, by its telling rows; `set` is when its word
-- was set
abbrev pub kept : ℕ → Option ℕ → Option ℕ → ℕ → ℕ → Option ℕ → Option ℕ → ℕ → ℕ → List Row → Account
kept deadline waits bits free rounds began word set preemptions rows =
    record {
      deadline = deadline;
      waits = waits;
      bits = bits;
      standing = standing_of rows;
      since = since_of rows;
      free = free;
      rounds = rounds;
      begun = began;
      called = word;
      active = active_of began rows;
      preemptions = preemptions;
      stood = stood_of (counting waits began free word (active_of began rows) set) rows;
      total = stood_of (Some 0) rows;
    }

-- the account after the rows `past`, if the words at first are `firsts`
abbrev pub account_of : List Held → ThreadPart → ℕ → List Row → Account
account_of firsts part thread past =
    kept part.deadline (first_wait part) (bits_of part) (free part.start thread past) (rounds_of thread past)
    (begun (first_wait part) (bits_of part) part.start thread past)
    (called firsts (first_wait part) (bits_of part) part.start thread past)
    (set_before firsts (first_wait part) thread past)
    (preemptions (first_wait part) (bits_of part) part.start thread past)
    (telling thread past)

-- all ticks that are counted
abbrev pub all_kept : Account → ℕ
all_kept account = all_ticks account.stood + all_ticks account.total

-- the ticks that are counted from then on, up to the latest telling row
abbrev pub stood_from : ℕ → Account → Stood
stood_from from account = if nat_le account.since from then no_ticks else account.stood

-- how the thread stood from then on up to `moment`, if it stood so since its latest telling row
abbrev pub stood_since : Option ℕ → ℕ → Standing → Account → Stood
stood_since None moment standing account = no_ticks
stood_since (Some from) moment standing account = counted standing (moment - max account.since from) (stood_from from account)

-- how it stood from time 0 up to `moment`
abbrev pub total_at : ℕ → Standing → Account → Stood
total_at moment standing account = counted standing (moment - account.since) account.total

-- the earlier tick, or the first one of [from, to) if the thread is active in them
abbrev pub or_first : Option ℕ → Bool → ℕ → ℕ → Option ℕ
or_first (Some earlier) active from to = Some earlier
or_first None active from to = if active && nat_lt from to then Some from else None

-- when it was first ready or running since its round began
abbrev pub active_since : Option ℕ → ℕ → Standing → Account → Option ℕ
active_since None moment standing account = account.active
active_since (Some from) moment standing account = or_first account.active (is_active standing) (max account.since from) moment

-- from when the ticks of its round are counted, if it stood so up to `moment`, and the word for
-- which it waits first was set at `set`
abbrev pub counting_at : ℕ → ℕ → Account → Option ℕ
counting_at set moment account =
    counting account.waits account.begun account.free account.called
    (active_since account.begun moment account.standing account) set

-- a telling row
abbrev pub told : ℕ → ℕ → What → Account → Account
told set moment what account =
    record account {
      standing = standing_after what;
      since = moment;
      active = active_since account.begun moment account.standing account;
      stood = stood_since (counting_at set moment account) moment account.standing account;
      total = total_at moment account.standing account;
    }

-- a round ends, and the next one, if it has begun, began at `began`; no tick is counted yet
abbrev pub ends : ℕ → ℕ → Option ℕ → Account → Account
ends moment rounds began account =
    record account { free = moment; rounds = rounds; begun = began; active = None; preemptions = 0; stood = no_ticks }

-- another thread took the processor
abbrev pub preempted : Account → Account
preempted account = record account { preemptions = with_preemption account.begun account.preemptions }

-- the thread has a word that was set at `set`; the Boolean is whether it begins a round
abbrev pub given_by : ℕ → ℕ → Bool → Option ℕ → Account → Account
given_by moment set true None account =
    record account { begun = Some moment; called = Some set; active = None; stood = stood_from (max set account.free) account }
given_by moment set _ _ account = account

abbrev pub given : ℕ → ℕ → ℕ → ℕ → Account → Account
given moment set note word account =
    given_by moment set (begins_round account.waits account.bits note word) account.begun account

-- the round that a telling row begins or ends, or the preemption that it counts
abbrev pub turned : ℕ → What → Account → Account
turned moment (row.Stop x why.Done charged until) account = ends moment account.rounds None account
turned moment (row.Stop x why.Preempt charged until) account = preempted account
turned moment (row.Wake x note word until) account = given moment moment note word account
turned moment _ account = account

-- one more row of this thread; `set` is when the word for which it waits first was set
abbrev pub seen_own : ℕ → ℕ → What → Account → Account
seen_own set moment (row.Got x note word) account = given moment set note word account
seen_own set moment (row.Round x number response) account = ends moment number (begun_at account.waits moment) account
seen_own set moment what account = turned moment what (told set moment what account)

-- the thread of a row that changes an account
abbrev pub subject : What → Option ℕ
subject (row.Release x) = Some x
subject (row.Run x) = Some x
subject (row.Stop x cause charged until) = Some x
subject (row.Wake x note word until) = Some x
subject (row.Got x note word) = Some x
subject (row.Round x number response) = Some x
subject _ = None

abbrev pub is_some_of : Option ℕ → ℕ → Bool
is_some_of None thread = false
is_some_of (Some x) thread = x == thread

abbrev pub is_about : ℕ → What → Bool
is_about thread what = is_some_of (subject what) thread

-- when the round under way was activated, by the account
abbrev pub activated_if : Option ℕ → Option ℕ → Option ℕ
activated_if None activated = None
activated_if (Some begun) activated = activated

abbrev pub activated_since : ℕ → Account → Option ℕ
activated_since moment account =
    activated_if account.begun
    (activated_by account.waits account.called (active_since account.begun moment account.standing account))

-- the parts of a round that was activated then, by the account
abbrev pub parts_since : ℕ → ℕ → Account → Stood
parts_since activated moment account = stood_since (Some (max activated account.free)) moment account.standing account

-- the round that ends, by the account
abbrev pub job_by : ℕ → ℕ → ℕ → Account → Job
job_by moment thread number account =
    let activated = or_now moment (activated_since moment account) in
    ended moment thread number account.free (or_now moment account.begun) activated account.preemptions
    (parts_since activated moment account)

-- its deadline miss, if it missed its deadline
abbrev pub miss_by : ℕ → ℕ → ℕ → Account → Option Finding
miss_by moment thread number account = missed account.deadline (job_by moment thread number account)

-- the round that is overdue at the horizon
abbrev pub overdue_from : ℕ → ℕ → Option ℕ → Account → Option Finding
overdue_from horizon thread None account = None
overdue_from horizon thread (Some activated) account =
    overdue_at horizon thread (one_more account.rounds) account.deadline account.free activated (parts_since activated horizon account)

abbrev pub overdue_by : ℕ → ℕ → Account → Option Finding
overdue_by horizon thread account = overdue_from horizon thread (activated_since horizon account) account

abbrev pub never_by : ℕ → ℕ → Held → Account → Option Finding
never_by horizon thread held account =
    never_at thread account.deadline
    (was_activated account.waits account.bits held account.standing (total_at horizon account.standing account))

abbrev pub unended_by : ℕ → ℕ → Held → Account → Option Finding
unended_by horizon thread held account = first_of (overdue_by horizon thread account) (never_by horizon thread held account)
