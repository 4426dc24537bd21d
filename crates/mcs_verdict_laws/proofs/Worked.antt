-- Standings and beginnings that were worked by hand.
use Rattle.std.specs.Prelude.{◌≡◌, ℕ, Bool, true, false, List, [], ◌∷◌, Some, None, is_some, refl}
use Rattle.std.specs.List.{list_any}
use Rattle.std.proofs.Common.{inl, sym, ◌∙◌, arith}
use Rattle.mcs_control.specs.declared.config.Mode.TheVariants as mode
use Rattle.mcs_script.specs.declared.item.Item.{Item}
use Rattle.mcs_script.specs.declared.item.Item.TheVariants.{Compute, Signal, Wait, Enter, Leave}
use Rattle.mcs_system.specs.declared.part.ThreadPart.{ThreadPart}
use Rattle.mcs_system.specs.declared.part.ContextPart.{ContextPart}
use Rattle.mcs_system.specs.System.{System}
use Rattle.mcs_core.specs.Clock.{schedule}
use Rattle.mcs_verdict.specs.declared.finding.Finding.TheVariants.{Overdue, Untaken}
use Rattle.mcs_verdict.specs.declared.job.Job.{Job}
use Rattle.mcs_verdict.specs.declared.standing.Standing.{Standing}
use Rattle.mcs_verdict.specs.declared.standing.Standing.TheVariants.{Pending, Ready, Running, Throttled, Blocked, AtServer, Done}
use Rattle.mcs_verdict.specs.Findings.{past_of, found_in}
use Rattle.mcs_verdict.specs.Due.{untaken}
use Rattle.mcs_verdict.specs.Jobs.{job, jobs_in}
use Rattle.mcs_verdict.specs.Misses.{overdue, never}
use Rattle.mcs_verdict.specs.Rounds.{begun_of}
use Rattle.mcs_verdict.specs.Standing.{standing_at, telling}
use Rattle.mcs_verdict_laws.specs.Standing.{standing_in_clock}
use Rattle.mcs_verdict.specs.Takers.{due_of}
use Rattle.mcs_verdict_laws.specs.laws.Fate.{rows_to, is_end, HasEnded, IsOverdue, IsUntaken, HasMissed, WasTaken}
use Rattle.mcs_verdict_laws.specs.laws.Horizons.{has_miss_of}
use Rattle.mcs_verdict_laws.specs.laws.Responses.{IsTold, HasParts, IsSummed}
use Rattle.mcs_verdict_laws.specs.laws.Running.{ticks_running}

abbrev context : ℕ → ℕ → ContextPart
context budget period = record { name = []; core = 0; config = record { budget = budget; period = period; extra = 0 }; mode = mode.Sporadic }

abbrev thread : ℕ → ℕ → ℕ → ℕ → List Item → ThreadPart
thread context priority start rounds script =
    record { name = []; context = context; priority = priority; start = start; rounds = rounds; deadline = 0; script = script }

abbrev one_core : List ContextPart → List ThreadPart → System
one_core contexts threads =
    record {
      cores = 1;
      delay = 1;
      call = 1;
      min_budget = 1;
      contexts = contexts;
      notes = record { name = []; core = 0; word = 0 } ∷ [];
      threads = threads;
      orders = [];
      links = [];
      servers = 0;
      sources = [];
      beats = [];
      chains = [];
    }

-- by the rows up to a horizon
abbrev told : System → ℕ → ℕ → ℕ → Standing
told system horizon tick thread = standing_at tick (telling thread (past_of [] (schedule system horizon)))

-- Five ticks of work on a budget of 2 in 5, from moment 1 on: it runs at 1, 2, 6, 7 and 11.
abbrev depletes : System
depletes = one_core (context 2 5 ∷ []) (thread 0 5 1 1 (Compute 5 ∷ []) ∷ [])

before_its_start : standing_in_clock depletes 0 0 ≡ Pending
before_its_start = refl

from_its_start : standing_in_clock depletes 1 0 ≡ Running
from_its_start = refl

up_to_its_budget : standing_in_clock depletes 2 0 ≡ Running
up_to_its_budget = refl

then_it_waits : standing_in_clock depletes 3 0 ≡ Throttled
then_it_waits = refl

up_to_its_refill : standing_in_clock depletes 5 0 ≡ Throttled
up_to_its_refill = refl

and_runs_on : standing_in_clock depletes 6 0 ≡ Running
and_runs_on = refl

its_last_tick : standing_in_clock depletes 11 0 ≡ Running
its_last_tick = refl

done_at_last : standing_in_clock depletes 12 0 ≡ Done
done_at_last = refl

it_ran_for_five : ticks_running 12 0 (schedule depletes 12) ≡ 5
it_ran_for_five = refl

and_for_two_of_the_first_six : ticks_running 6 0 (schedule depletes 6) ≡ 2
and_for_two_of_the_first_six = refl

-- Thread 1 waits, at the price of its budget of 1 in 10; thread 0 signals at 5 and is done. Thread
-- 1 is then woken at 5 and runs at 10.
abbrev woken : System
woken = one_core (context 20 20 ∷ context 1 10 ∷ []) (thread 0 5 0 1 (Compute 3 ∷ Signal 0 1 ∷ []) ∷ thread 1 9 0 0 (Wait 0 ∷ Compute 1 ∷ []) ∷ [])

behind_the_other : standing_in_clock woken 0 0 ≡ Ready
behind_the_other = refl

before_its_wait : standing_in_clock woken 0 1 ≡ Running
before_its_wait = refl

at_its_wait : standing_in_clock woken 1 1 ≡ Blocked
at_its_wait = refl

woken_with_no_budget : standing_in_clock woken 5 1 ≡ Throttled
woken_with_no_budget = refl

as_the_row_of_its_wake_says : told woken 5 5 1 ≡ Throttled
as_the_row_of_its_wake_says = refl

until_its_release : told woken 10 9 1 ≡ Throttled
until_its_release = refl

done_at_once : standing_in_clock woken 5 0 ≡ Done
done_at_once = refl

-- its round began when it was woken, and so it ends at 11 with a response of 6
begun_by_the_wake : begun_of woken 1 (past_of [] (schedule woken 10)) ≡ Some 5
begun_by_the_wake = refl

its_response : IsTold woken (past_of [] (schedule woken 10)) 11 1 6
its_response = record { beginning = 5; told = begun_by_the_wake; response_is = refl }

no_other_response : IsTold woken (past_of [] (schedule woken 10)) 11 1 7 → ⊥
no_other_response is =
    let e : Some is.beginning ≡ Some 5 = sym is.told ∙ begun_by_the_wake in
    let f : is.beginning ≡ 5 = cc in
    let g = is.response_is in
    omega (arith, f, g)

-- its parts: throttled from 5 to 10, and one tick of work
abbrev its_job : Job
its_job = job woken (past_of [] (schedule woken 10)) 11 1 1

its_parts : IsSummed its_job
its_parts = record { parts = record { sum = refl; pending = refl; done = refl }; response_is = refl }

which_are_six_ticks : its_job.response ≡ 6
which_are_six_ticks = refl

none_of_them_queued : its_job.queued ≡ 0
none_of_them_queued = refl

its_throttled_ticks : its_job.stood.throttled ≡ 5
its_throttled_ticks = refl

-- Thread 0 signals at 2 and at 6. Thread 1 waits at 2, and preempted from 4 to 6 it ends its first round at 8: the second word waits
-- two ticks for that. It is taken at 9, and its round ends at 12.
abbrev queues : System
queues =
    one_core (context 2 4 ∷ context 20 20 ∷ [])
    (thread 0 9 0 2 (Compute 1 ∷ Signal 0 1 ∷ []) ∷ record (thread 1 5 0 0 (Wait 0 ∷ Compute 3 ∷ [])) { deadline = 3 } ∷ [])

abbrev first_job : Job
first_job = job queues (past_of [] (schedule queues 7)) 8 1 1

abbrev second_job : Job
second_job = job queues (past_of [] (schedule queues 11)) 12 1 2

first_activation : first_job.activated ≡ 2
first_activation = refl

first_in_the_queue : first_job.queued ≡ 0
first_in_the_queue = refl

ready_while_preempted : first_job.stood.ready ≡ 2
ready_while_preempted = refl

running_with_its_wait : first_job.stood.running ≡ 4
running_with_its_wait = refl

second_activation : second_job.activated ≡ 6
second_activation = refl

up_to_the_end_of_the_first : second_job.queued ≡ 2
up_to_the_end_of_the_first = refl

then_it_runs : second_job.stood.running ≡ 4
then_it_runs = refl

and_they_sum : HasParts 6 2 second_job.stood
and_they_sum = record { sum = refl; pending = refl; done = refl }

no_other_sum : HasParts 7 2 second_job.stood → ⊥
no_other_sum parts = let s = parts.sum in omega (arith, s)

-- a tick before, it is overdue: 5 ticks after its activation
its_age : overdue queues (past_of [] (schedule queues 11)) 11 1
    ≡ Some (Overdue 1 2 5 3 6 2 (record { pending = 0; ready = 0; running = 3; throttled = 0; blocked = 0; server = 0; done = 0 }))
its_age = refl

-- Thread 0 is in the server from 1 on, and spends its budget there. Thread 1 calls the server at 5 and is let in at 21.
abbrev at_server : System
at_server =
    record
    (one_core (context 3 10 ∷ context 20 100 ∷ [])
    (thread 0 10 0 1 (Enter 0 40 ∷ Compute 5 ∷ Leave 0 10 ∷ []) ∷ thread 1 30 4 1 (Enter 0 40 ∷ Compute 5 ∷ Leave 0 30 ∷ []) ∷ []))
    { notes = record { name = []; core = 0; word = 1 } ∷ []; servers = 1 }

before_its_call : standing_in_clock at_server 4 1 ≡ Running
before_its_call = refl

in_front_of_the_server : standing_in_clock at_server 5 1 ≡ AtServer
in_front_of_the_server = refl

as_the_rows_say : told at_server 5 5 1 ≡ AtServer
as_the_rows_say = refl

until_it_is_let_in : standing_in_clock at_server 20 1 ≡ AtServer
until_it_is_let_in = refl

then_it_has_the_server : standing_in_clock at_server 21 1 ≡ Running
then_it_has_the_server = refl

-- whether a thread is overdue at a horizon, whether the word of a notification is untaken there, and
-- whether a round of the thread missed its deadline up to there
abbrev is_overdue : System → ℕ → ℕ → Bool
is_overdue system horizon thread = is_some (overdue system (rows_to system horizon) horizon thread)

abbrev is_untaken : System → ℕ → ℕ → Bool
is_untaken system horizon note = is_some (untaken system (rows_to system horizon) horizon note)

abbrev is_never : System → ℕ → ℕ → Bool
is_never system horizon thread = is_some (never system (rows_to system horizon) horizon thread)

abbrev missed_by : System → ℕ → ℕ → Bool
missed_by system horizon thread = has_miss_of thread (found_in system [] (schedule system horizon))

-- Thread 0 signals at 4 and is done; thread 1 comes after a third one, which runs from 4 to 8. The
-- word was set at 4, and thread 1 takes it at 9: its round was activated at 4.
abbrev late : System
late =
    one_core (context 20 20 ∷ context 20 20 ∷ context 20 20 ∷ [])
    (thread 0 9 0 1 (Compute 3 ∷ Signal 0 1 ∷ []) ∷ record (thread 1 5 0 0 (Wait 0 ∷ Compute 1 ∷ [])) { deadline = 3 }
    ∷ thread 2 7 0 1 (Compute 4 ∷ []) ∷ [])

not_before_its_deadline : is_untaken late 6 0 ≡ false
not_before_its_deadline = refl

at_its_deadline : untaken late (rows_to late 7) 7 0 ≡ Some (Untaken 0 1 3 3 4)
at_its_deadline = refl

of_the_notification_alone : is_overdue late 8 1 ≡ false
of_the_notification_alone = refl

not_when_it_is_taken : is_untaken late 9 0 ≡ false
not_when_it_is_taken = refl

but_of_the_thread_then : IsOverdue late 9 1 4
but_of_the_thread_then = refl

no_miss_yet : missed_by late 9 1 ≡ false
no_miss_yet = refl

not_when_its_round_ended : is_overdue late 10 1 ≡ false
not_when_its_round_ended = refl

which_missed_its_deadline : HasMissed late 7 10 1 4
which_missed_its_deadline = refl

and_ended : HasEnded late 9 10 1 4
and_ended = refl

no_second_time : list_any (is_end 10 1 4) (jobs_in late [] (schedule late 14)) ≡ false
no_second_time = refl

-- Two threads wait first for the notification, with deadlines of 3 and 6. The word is untaken once
-- the greater one has passed: whoever takes it then misses its deadline.
abbrev pool : System
pool =
    one_core (context 20 20 ∷ context 20 20 ∷ context 20 20 ∷ context 20 20 ∷ [])
    (thread 0 9 0 1 (Compute 3 ∷ Signal 0 1 ∷ []) ∷ record (thread 1 5 0 0 (Wait 0 ∷ Compute 1 ∷ [])) { deadline = 3 }
    ∷ record (thread 2 6 0 0 (Wait 0 ∷ Compute 1 ∷ [])) { deadline = 6 } ∷ thread 3 7 0 1 (Compute 9 ∷ []) ∷ [])

by_the_greater_deadline : due_of 0 pool.threads ≡ Some 6
by_the_greater_deadline = refl

not_after_the_least : is_untaken pool 9 0 ≡ false
not_after_the_least = refl

after_the_greatest : IsUntaken pool 10 0 4
after_the_greatest = refl

taken_by_the_second : WasTaken pool 10 14 0 4
taken_by_the_second = record { thread = 2; waits = refl; late = inl refl }

and_missed : HasMissed pool 10 16 2 4
and_missed = refl

-- no thread is never activated while another takes the words
not_the_spare_one : is_never pool 16 1 ≡ false
not_the_spare_one = refl

-- The third one now takes the word as its second item, at 9. So the notification has no deadline,
-- and nothing is found of a word that may be taken in time.
abbrev taken_by_another : System
taken_by_another =
    one_core (context 20 20 ∷ context 20 20 ∷ context 20 20 ∷ [])
    (thread 0 9 0 1 (Compute 3 ∷ Signal 0 1 ∷ []) ∷ record (thread 1 5 0 0 (Wait 0 ∷ Compute 1 ∷ [])) { deadline = 3 }
    ∷ thread 2 7 0 1 (Compute 4 ∷ Wait 0 ∷ Compute 1 ∷ []) ∷ [])

without_a_deadline : due_of 0 taken_by_another.threads ≡ None
without_a_deadline = refl

not_untaken : is_untaken taken_by_another 8 0 ≡ false
not_untaken = refl

not_overdue : is_overdue taken_by_another 8 1 ≡ false
not_overdue = refl

never_before_it_was_given : is_never taken_by_another 8 1 ≡ true
never_before_it_was_given = refl

not_never_after : is_never taken_by_another 9 1 ≡ false
not_never_after = refl
