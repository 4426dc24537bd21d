-- Findings that were worked by hand, of the rows of small systems.
use Rattle.std.specs.Prelude.{◌≡◌, ℕ, ◌+◌, true, false, List, [], ◌∷◌, map, Option, Some, None, refl}
use Rattle.std.proofs.Common.{ap, arith, lit<}
use Rattle.mcs_ticks.specs.declared.row.Row.{Row}
use Rattle.mcs_ticks.specs.declared.row.What.{What}
use Rattle.mcs_ticks.specs.declared.row.What.TheVariants as row
use Rattle.mcs_ticks.specs.declared.row.Why.TheVariants as why
use Rattle.mcs_script.specs.declared.item.Item.{Item}
use Rattle.mcs_script.specs.declared.item.Item.TheVariants.{Compute, Signal, Wait, On, Enter, Leave}
use Rattle.mcs_control.specs.declared.config.Mode.TheVariants as mode
use Rattle.mcs_system.specs.declared.part.ThreadPart.{ThreadPart}
use Rattle.mcs_system.specs.System.{System}
use Rattle.mcs_verdict.specs.declared.account.Account.{Account}
use Rattle.mcs_verdict.specs.declared.finding.Finding.TheVariants as finding
use Rattle.mcs_verdict.specs.declared.finding.Finding.{Finding}
use Rattle.mcs_verdict.specs.declared.finding.Found.{Found}
use Rattle.mcs_verdict.specs.declared.job.Job.{Job}
use Rattle.mcs_verdict.specs.declared.standing.Stood.{Stood}
use Rattle.mcs_verdict.specs.declared.due.Due.TheVariants.{Unused}
use Rattle.mcs_verdict.specs.Stood.{all_ticks}
use Rattle.mcs_verdict.specs.Dues.{due_parts, known_due}
use Rattle.mcs_verdict.specs.Jobs.{jobs_in}
use Rattle.mcs_verdict.specs.Findings.{findings, found_in, past_of}
use Rattle.mcs_verdict.specs.laws.ByCore.{rows_on, found_on}
use Rattle.mcs_verdict.specs.Words.{merges}
use Rattle.mcs_verdict.specs.Account.{account_of}
use Rattle.mcs_verdict.specs.Calls.{called_for}
use Rattle.mcs_verdict.specs.Watch.{Watch, watch_of}
use Rattle.mcs_verdict.specs.Later.{IsLaterThread, IsSameWord, IsLaterWord}

-- a thread: its context, deadline and script
abbrev thread : ℕ → ℕ → List Item → ThreadPart
thread context deadline script =
    record { name = []; context = context; priority = 5; start = 0; rounds = 0; deadline = deadline; script = script }

-- threads 0 and 1, and one notification; the findings don't depend on contexts but for the cores
abbrev two : ThreadPart → ThreadPart → System
two a b =
    record {
      cores = 1;
      delay = 1;
      call = 1;
      min_budget = 1;
      contexts = record { name = []; core = 0; config = record { budget = 1; period = 10; extra = 0 }; mode = mode.Sporadic }
          ∷ record { name = []; core = 0; config = record { budget = 20; period = 20; extra = 0 }; mode = mode.Sporadic } ∷ [];
      notes = record { name = []; core = 0; word = 0 } ∷ [];
      threads = a ∷ b ∷ [];
      orders = [];
      links = [];
      servers = 0;
      sources = [];
      beats = [];
      chains = [];
    }

abbrev at : ℕ → What → Row
at moment what = record { moment = moment; core = 0; what = what }

abbrev found : ℕ → Finding → Found
found moment what = record { moment = moment; core = 0; finding = what }

-- ready, running, throttled, blocked
abbrev parts : ℕ → ℕ → ℕ → ℕ → Stood
parts ready running throttled blocked =
    record { pending = 0; ready = ready; running = running; throttled = throttled; blocked = blocked; server = 0; done = 0 }

-- a thread with a deadline of 5 that never runs is overdue once 5 ticks have passed
abbrev starved : List Row
starved = at 0 (row.Release 0) ∷ at 0 (row.Release 1) ∷ at 0 (row.Run 1) ∷ []

never_in_time : findings (two (thread 0 5 (Compute 2 ∷ [])) (thread 1 0 (Compute 1000 ∷ []))) 5 starved ≡ found 5 (finding.Overdue 0 1 5 5 0 0 (parts 5 0 0 0)) ∷ []
never_in_time = refl

still_in_time : findings (two (thread 0 5 (Compute 2 ∷ [])) (thread 1 0 (Compute 1000 ∷ []))) 4 starved ≡ []
still_in_time = refl

-- The clock thread signals; the loop waits first, so its round begins with the word at 2, which was set at 1. A second word is set at 11,
-- and a signal at 12 is lost.
abbrev looped : List Row
looped =
    at 0 (row.Release 0) ∷ at 0 (row.Release 1) ∷ at 0 (row.Run 0) ∷ at 1 (row.Signal 0 0 1) ∷ at 1 (row.Hold 0 1)
    ∷ at 1 (row.Stop 0 why.Spent 1 (Some 10)) ∷ at 1 (row.Run 1) ∷ at 2 (row.Got 1 0 1) ∷ at 10 (row.Release 0)
    ∷ at 10 (row.Stop 1 why.Preempt 9 None) ∷ at 10 (row.Run 0) ∷ at 11 (row.Signal 0 0 1) ∷ at 11 (row.Hold 0 1)
    ∷ at 12 (row.Signal 0 0 1) ∷ at 12 (row.Hold 0 1) ∷ at 12 (row.Stop 0 why.Spent 1 (Some 20)) ∷ at 12 (row.Run 1)
    ∷ at 16 (row.Round 1 1 14) ∷ at 17 (row.Got 1 0 1) ∷ []

missed_lost_and_overdue :
    findings (two (thread 0 0 (Signal 0 1 ∷ [])) (thread 1 6 (Wait 0 ∷ Compute 12 ∷ []))) 20 looped
    ≡ found 12 (finding.Lost 0 1) ∷ found 16 (finding.Miss 1 1 15 6 1 0 (parts 2 13 0 0)) ∷ found 20 (finding.Overdue 1 2 9 6 11 5 (parts 0 4 0 0)) ∷ []
missed_lost_and_overdue = refl

-- a response of the deadline itself is none too late
at_the_deadline : findings (two (thread 0 0 (Signal 0 1 ∷ [])) (thread 1 15 (Wait 0 ∷ Compute 12 ∷ []))) 20 looped ≡ found 12 (finding.Lost 0 1) ∷ []
at_the_deadline = refl

one_tick_above :
    findings (two (thread 0 0 (Signal 0 1 ∷ [])) (thread 1 14 (Wait 0 ∷ Compute 12 ∷ []))) 20 looped
    ≡ found 12 (finding.Lost 0 1) ∷ found 16 (finding.Miss 1 1 15 14 1 0 (parts 2 13 0 0)) ∷ []
one_tick_above = refl

-- a loop that yields is activated by its release, however long its round has waited for it
abbrev yields : List Row
yields =
    at 0 (row.Release 0) ∷ at 0 (row.Run 0) ∷ at 3 (row.Round 0 1 3) ∷ at 3 (row.Stop 0 why.Yield 3 (Some 10)) ∷ at 10 (row.Release 0)
    ∷ at 10 (row.Run 0) ∷ at 13 (row.Round 0 2 10) ∷ at 13 (row.Stop 0 why.Yield 3 (Some 20)) ∷ []

in_each_period : findings (two (thread 0 5 (Compute 2 ∷ [])) (thread 1 0 (Compute 1 ∷ []))) 19 yields ≡ []
in_each_period = refl

too_slow_in_each :
    findings (two (thread 0 2 (Compute 2 ∷ [])) (thread 1 0 (Compute 1 ∷ []))) 19 yields
    ≡ found 3 (finding.Miss 0 1 3 2 0 0 (parts 0 3 0 0)) ∷ found 13 (finding.Miss 0 2 3 2 10 0 (parts 0 3 0 0)) ∷ []
too_slow_in_each = refl

-- a woken thread waits for its budget until the date that its row has, or is ready
abbrev woken : Option ℕ → List Row → List Row
woken until rest = at 0 (row.Release 1) ∷ at 0 (row.Run 1) ∷ at 1 (row.Stop 1 why.Wait 1 None) ∷ at 5 (row.Wake 1 0 1 until) ∷ rest

after_release : findings (two (thread 0 0 (Compute 1 ∷ [])) (thread 1 3 (Compute 1 ∷ Wait 0 ∷ Compute 2 ∷ []))) 12 (woken (Some 9) (at 9 (row.Release 1) ∷ []))
    ≡ found 12 (finding.Overdue 1 1 12 3 0 0 (parts 3 1 4 4)) ∷ []
after_release = refl

before_release : findings (two (thread 0 0 (Compute 1 ∷ [])) (thread 1 3 (Compute 1 ∷ Wait 0 ∷ Compute 2 ∷ []))) 8 (woken (Some 9) [])
    ≡ found 8 (finding.Overdue 1 1 8 3 0 0 (parts 0 1 3 4)) ∷ []
before_release = refl

-- a thread of a low priority that starves is ready
starves : findings (two (thread 0 0 (Compute 1 ∷ [])) (thread 1 5 (Wait 0 ∷ Compute 2 ∷ []))) 12 (woken None [])
    ≡ found 12 (finding.Overdue 1 1 7 5 5 0 (parts 7 0 0 0)) ∷ []
starves = refl

-- it waits for ever, or is activated by its wake
waits_for_ever : findings (two (thread 0 0 (Compute 1 ∷ [])) (thread 1 5 (Wait 0 ∷ Compute 2 ∷ []))) 9
    (at 0 (row.Release 1) ∷ at 0 (row.Run 1) ∷ at 1 (row.Stop 1 why.Wait 1 None) ∷ [])
    ≡ found 9 (finding.Never 1 5) ∷ []
waits_for_ever = refl

woken_in_time : findings (two (thread 0 0 (Compute 1 ∷ [])) (thread 1 5 (Wait 0 ∷ Compute 2 ∷ []))) 9 (woken None []) ≡ []
woken_in_time = refl

-- a word that nobody took for a deadline's time
abbrev held_for : List Row
held_for = at 0 (row.Release 1) ∷ at 0 (row.Release 0) ∷ at 0 (row.Run 0) ∷ at 2 (row.Hold 0 1) ∷ []

not_taken : findings (two (thread 0 0 (Compute 100 ∷ [])) (thread 1 5 (Wait 0 ∷ Compute 2 ∷ []))) 7 held_for
    ≡ found 7 (finding.Never 1 5) ∷ found 7 (finding.Untaken 0 1 5 5 2) ∷ []
not_taken = refl

yet_to_be_taken : findings (two (thread 0 0 (Compute 100 ∷ [])) (thread 1 5 (Wait 0 ∷ Compute 2 ∷ []))) 6 held_for
    ≡ found 6 (finding.Never 1 5) ∷ []
yet_to_be_taken = refl

-- a signal is merged if it adds bits, and lost if it adds none
merged : merges (two (thread 0 0 (Compute 1 ∷ [])) (thread 1 0 (Compute 1 ∷ []))) (at 1 (row.Hold 0 1) ∷ []) (row.Hold 0 3) ≡ true
merged = refl

not_merged : merges (two (thread 0 0 (Compute 1 ∷ [])) (thread 1 0 (Compute 1 ∷ []))) (at 1 (row.Hold 0 1) ∷ []) (row.Hold 0 1) ≡ false
not_merged = refl

first_word : merges (two (thread 0 0 (Compute 1 ∷ [])) (thread 1 0 (Compute 1 ∷ []))) [] (row.Hold 0 1) ≡ false
first_word = refl

-- a round that ended: its thread, number, activation, beginning, end, response, wait in line, preemptions and parts
abbrev job : ℕ → ℕ → ℕ → ℕ → ℕ → ℕ → ℕ → ℕ → Stood → Job
job thread number activated begun ended response queued preemptions stood =
    record {
      thread = thread;
      number = number;
      activated = activated;
      begun = begun;
      ended = ended;
      response = response;
      queued = queued;
      preemptions = preemptions;
      stood = stood;
    }

preempted_once : jobs_in (two (thread 0 0 (Signal 0 1 ∷ [])) (thread 1 6 (Wait 0 ∷ Compute 12 ∷ []))) [] looped ≡ job 1 1 1 2 16 15 0 1 (parts 2 13 0 0) ∷ []
preempted_once = refl

-- If the loop waits first, a preemption before the word is taken belongs to no round, even at the
-- time of its beginning. One after the word is taken counts, even at that time; one after the
-- round's end does not.
abbrev preempts : List Row
preempts =
    at 0 (row.Release 1) ∷ at 0 (row.Run 1) ∷ at 1 (row.Stop 1 why.Preempt 1 None) ∷ at 4 (row.Hold 0 1) ∷ at 5 (row.Run 1)
    ∷ at 5 (row.Stop 1 why.Preempt 0 None) ∷ at 5 (row.Run 1) ∷ at 5 (row.Got 1 0 1) ∷ at 5 (row.Stop 1 why.Preempt 0 None)
    ∷ at 6 (row.Run 1) ∷ at 8 (row.Round 1 1 3) ∷ at 8 (row.Stop 1 why.Preempt 2 None) ∷ at 9 (row.Hold 0 2) ∷ at 10 (row.Run 1)
    ∷ at 10 (row.Got 1 0 2) ∷ at 12 (row.Round 1 2 2) ∷ []

preempted_in_the_first : jobs_in (two (thread 0 0 (Signal 0 1 ∷ [])) (thread 1 0 (Wait 0 ∷ Compute 2 ∷ []))) [] preempts
    ≡ job 1 1 4 5 8 4 0 1 (parts 2 2 0 0) ∷ job 1 2 9 10 12 3 0 0 (parts 1 2 0 0) ∷ []
preempted_in_the_first = refl

-- If the loop begins when the round before ends, such a preemption belongs to the next round. A
-- stop of another cause is no preemption, and that of another thread is not counted.
abbrev spends : List Row
spends =
    at 0 (row.Release 0) ∷ at 0 (row.Release 1) ∷ at 0 (row.Run 0) ∷ at 2 (row.Stop 0 why.Spent 2 (Some 10)) ∷ at 2 (row.Run 1)
    ∷ at 10 (row.Release 0) ∷ at 10 (row.Stop 1 why.Preempt 8 None) ∷ at 10 (row.Run 0) ∷ at 11 (row.Round 0 1 11)
    ∷ at 11 (row.Stop 0 why.Preempt 1 None) ∷ at 11 (row.Run 1) ∷ at 12 (row.Stop 1 why.Yield 9 (Some 20)) ∷ at 12 (row.Run 0)
    ∷ at 14 (row.Stop 0 why.Preempt 3 (Some 21)) ∷ at 21 (row.Release 0) ∷ at 21 (row.Run 0) ∷ at 22 (row.Round 0 2 11) ∷ []

preempted_in_the_second : jobs_in (two (thread 0 0 (Compute 3 ∷ [])) (thread 1 0 (Compute 100 ∷ []))) [] spends
    ≡ job 0 1 0 0 11 11 0 0 (parts 0 3 8 0) ∷ job 0 2 11 11 22 11 0 2 (parts 1 3 7 0) ∷ []
preempted_in_the_second = refl

-- a thread that the system does not have has no rounds
of_no_thread : jobs_in (two (thread 0 0 (Compute 3 ∷ [])) (thread 1 0 (Compute 100 ∷ []))) [] (at 4 (row.Round 2 1 4) ∷ []) ≡ []
of_no_thread = refl

-- Thread 0 signals once in 10 ticks, in one round without end. The loop waits for that, and takes 3 ticks.
abbrev signalled : ℕ → List Row → List Row
signalled t rest = at t (row.Release 0) ∷ at t (row.Run 0) ∷ at (t + 1) (row.Signal 0 0 1) ∷ at (t + 1) (row.Hold 0 1) ∷ rest

abbrev taken : ℕ → List Row → List Row
taken t rest = at (t + 1) (row.Stop 0 why.Spent 1 (Some (t + 10))) ∷ at (t + 1) (row.Run 1) ∷ at (t + 1) (row.Got 1 0 1) ∷ rest

abbrev done : ℕ → List Row → List Row
done t rest = at (t + 4) (row.Round 1 1 3) ∷ at (t + 4) (row.Stop 1 why.Wait 3 None) ∷ rest

abbrev kept : List Row → Watch
kept rows = watch_of (two (thread 0 0 (Signal 0 1 ∷ [])) (thread 1 0 (Wait 0 ∷ Compute 3 ∷ []))) (past_of [] rows)

-- in the second period, and in the third
abbrev first : Watch
first = kept (signalled 0 (taken 0 (done 0 (signalled 10 (taken 10 [])))))

abbrev second : Watch
second = kept (signalled 0 (taken 0 (done 0 (signalled 10 (taken 10 (done 10 (signalled 20 (taken 20 []))))))))

later_thread : IsLaterThread 10 first second 1
later_thread = record { known_before = lit< tt; known_after = lit< tt; later = λ d. refl }

-- the other one's round began before both
not_later_thread : IsLaterThread 10 first second 0 → ⊥
not_later_thread h = no (ap (λ (account : Account). account.begun) (h.later no_account))
  where
    no_account : Account
    no_account = account_of [] (thread 0 0 []) 0 []

    no : ◌≡◌ {A = Option ℕ} (Some 0) (Some 10) → ⊥
    no e = cc

later_word : IsLaterWord 10 first second 0
later_word = record { known_before = lit< tt; known_after = lit< tt; later = λ d. refl }

-- a word that is taken is 0, as before
same_word : IsSameWord first second 0
same_word = record { known_before = lit< tt; known_after = lit< tt; same = λ d. refl }

-- a thread and a notification that the system does not have
of_no_thread_later : IsLaterThread 10 first second 2 → ⊥
of_no_thread_later h = absurd (omega (arith, h.known_before))

of_no_note : IsSameWord first second 1 → ⊥
of_no_note h = absurd (omega (arith, h.known_before))

-- Thread 0 on core 0 signals twice to a notification of core 1. The first word is still pending
-- when the second signal arrives.
abbrev across : System
across =
    record {
      cores = 2;
      delay = 1;
      call = 1;
      min_budget = 1;
      contexts = record { name = []; core = 0; config = record { budget = 20; period = 20; extra = 0 }; mode = mode.Sporadic } ∷ [];
      notes = record { name = []; core = 1; word = 0 } ∷ [];
      threads = thread 0 0 (Signal 0 1 ∷ Signal 0 1 ∷ []) ∷ [];
      orders = [];
      links = [];
      servers = 0;
      sources = [];
      beats = [];
      chains = [];
    }

abbrev on : ℕ → ℕ → What → Row
on core moment what = record { moment = moment; core = core; what = what }

abbrev crossed : List Row
crossed =
    on 0 0 (row.Release 0) ∷ on 0 0 (row.Run 0) ∷ on 0 1 (row.Signal 0 0 1) ∷ on 0 2 (row.Signal 0 0 1) ∷ on 1 2 (row.Arrive 0 1 0)
    ∷ on 1 2 (row.Hold 0 1) ∷ on 0 2 (row.Round 0 0 2) ∷ on 1 3 (row.Arrive 0 1 0) ∷ on 1 3 (row.Hold 0 1) ∷ []

abbrev lost_there : List Found
lost_there = record { moment = 3; core = 1; finding = finding.Lost 0 1 } ∷ []

lost_among_all : found_on 1 (found_in across [] crossed) ≡ lost_there
lost_among_all = refl

lost_on_its_core : found_in across [] (rows_on 1 crossed) ≡ lost_there
lost_on_its_core = refl

none_on_the_other : found_in across [] (rows_on 0 crossed) ≡ []
none_on_the_other = refl

-- Words with one of these bits leave something to do: those of handlers that have an item. If an
-- item comes before all handlers, or there is no handler, every word does.
of_handlers : called_for (Wait 0 ∷ On 1 ∷ Compute 2 ∷ On 2 ∷ On 12 ∷ Compute 1 ∷ On 16 ∷ []) ≡ Some 13
of_handlers = refl

before_handlers : called_for (Wait 0 ∷ Compute 1 ∷ On 1 ∷ Compute 2 ∷ []) ≡ None
before_handlers = refl

of_no_handler : called_for (Wait 0 ∷ Compute 2 ∷ []) ≡ None
of_no_handler = refl

-- A loop with one handler, for badge 1. A word that nobody takes begins no round, and the one after it does.
abbrev handles : ℕ → System
handles deadline = two (thread 0 0 (Signal 0 4 ∷ Signal 0 1 ∷ [])) (thread 1 deadline (Wait 0 ∷ On 1 ∷ Compute 2 ∷ []))

abbrev woken_for_nothing : List Row → List Row
woken_for_nothing rest =
    at 0 (row.Release 1) ∷ at 0 (row.Run 1) ∷ at 1 (row.Stop 1 why.Wait 1 None) ∷ at 2 (row.Wake 1 0 4 None) ∷ at 2 (row.Run 1)
    ∷ at 3 (row.Stop 1 why.Wait 1 None) ∷ rest

woken_for_something : jobs_in (handles 0) [] (woken_for_nothing (at 6 (row.Wake 1 0 5 None) ∷ at 6 (row.Run 1) ∷ at 8 (row.Round 1 1 2) ∷ []))
    ≡ job 1 1 6 6 8 2 0 0 (parts 0 2 0 0) ∷ []
woken_for_something = refl

never_for_something : findings (handles 3) 9 (woken_for_nothing []) ≡ found 9 (finding.Never 1 3) ∷ []
never_for_something = refl

-- The first bit that leaves something to do counts, since the word was last taken.
abbrev held_for_nothing : List Row → List Row
held_for_nothing rest =
    at 0 (row.Release 0) ∷ at 0 (row.Release 1) ∷ at 0 (row.Run 0) ∷ at 1 (row.Signal 0 0 4) ∷ at 1 (row.Hold 0 4)
    ∷ at 5 (row.Signal 0 0 1) ∷ at 5 (row.Hold 0 5) ∷ at 6 (row.Signal 0 0 2) ∷ at 6 (row.Hold 0 7) ∷ rest

held_for_something :
    jobs_in (handles 0) [] (held_for_nothing (at 7 (row.Run 1) ∷ at 8 (row.Got 1 0 7) ∷ at 10 (row.Round 1 1 2) ∷ []))
    ≡ job 1 1 5 8 10 5 0 0 (parts 2 3 0 0) ∷ []
held_for_something = refl

untaken_for_something : findings (handles 4) 9 (held_for_nothing []) ≡ found 9 (finding.Never 1 4) ∷ found 9 (finding.Untaken 0 7 4 4 5) ∷ []
untaken_for_something = refl

in_time_for_something : findings (handles 5) 9 (held_for_nothing []) ≡ found 9 (finding.Never 1 5) ∷ []
in_time_for_something = refl

-- a word that leaves its thread nothing to do is due at no time
for_nothing : findings (handles 4) 9 (at 1 (row.Hold 0 4) ∷ []) ≡ found 9 (finding.Never 1 4) ∷ []
for_nothing = refl

-- and so of the word that a notification holds at first
abbrev holds_at_first : ℕ → ℕ → System
holds_at_first word deadline = record (handles deadline) { notes = record { name = []; core = 0; word = word } ∷ [] }

untaken_at_first : findings (holds_at_first 1 4) 4 [] ≡ found 4 (finding.Never 1 4) ∷ found 4 (finding.Untaken 0 1 4 4 0) ∷ []
untaken_at_first = refl

not_untaken_at_first : findings (holds_at_first 4 4) 4 [] ≡ found 4 (finding.Never 1 4) ∷ []
not_untaken_at_first = refl

-- a signal that adds nothing to the first word is lost
lost_in_the_first : findings (holds_at_first 4 0) 4 (at 1 (row.Hold 0 4) ∷ []) ≡ found 1 (finding.Lost 0 4) ∷ []
lost_in_the_first = refl

-- an interrupt that adds nothing to what is held is lost, and a thread that calls a server which is taken waits for it
abbrev interrupted : List Row
interrupted =
    at 0 (row.Release 1) ∷ at 0 (row.Run 1) ∷ at 1 (row.Interrupt 0 0 1) ∷ at 1 (row.Hold 0 1) ∷ at 2 (row.Stop 1 why.Call 2 None)
    ∷ at 3 (row.Interrupt 0 0 1) ∷ at 3 (row.Hold 0 1) ∷ at 5 (row.Wake 1 1 1 None) ∷ at 5 (row.Run 1) ∷ at 6 (row.Signal 1 1 1) ∷ at 6 (row.Round 1 1 6) ∷ []

lost_and_at_a_server : findings (two (thread 0 0 (Compute 1 ∷ [])) (thread 1 5 (Enter 1 9 ∷ Leave 1 5 ∷ []))) 6 interrupted
    ≡ found 3 (finding.Lost 0 1) ∷ found 6 (finding.Miss 1 1 6 5 0 0 (record (parts 0 3 0 0) { server = 3 })) ∷ []
lost_and_at_a_server = refl

-- The round before ended at 8, and the word came at 12. Of its 26 ticks the round waited 22 for budget, and none for another round.
abbrev for_budget : List Row
for_budget =
    at 0 (row.Release 1) ∷ at 0 (row.Run 1) ∷ at 1 (row.Stop 1 why.Wait 1 None) ∷ at 5 (row.Wake 1 0 1 None) ∷ at 5 (row.Run 1) ∷ at 8 (row.Round 1 1 3)
    ∷ at 8 (row.Stop 1 why.Spent 3 (Some 30)) ∷ at 12 (row.Hold 0 1) ∷ at 30 (row.Release 1) ∷ at 30 (row.Run 1) ∷ at 31 (row.Got 1 0 1)
    ∷ at 31 (row.Stop 1 why.Spent 1 (Some 35)) ∷ at 35 (row.Release 1) ∷ at 35 (row.Run 1) ∷ at 38 (row.Round 1 2 7) ∷ []

queued_is_budget : findings (two (thread 0 0 (Compute 1 ∷ [])) (thread 1 10 (Wait 0 ∷ Compute 3 ∷ []))) 40 for_budget
    ≡ found 38 (finding.Miss 1 2 26 10 12 0 (parts 0 4 22 0)) ∷ []
queued_is_budget = refl

-- The word came at 6, while the round before was under way: the round waited 2 ticks for that.
abbrev in_line : List Row
in_line =
    at 0 (row.Release 1) ∷ at 0 (row.Run 1) ∷ at 1 (row.Stop 1 why.Wait 1 None) ∷ at 5 (row.Wake 1 0 1 None) ∷ at 5 (row.Run 1) ∷ at 6 (row.Hold 0 1)
    ∷ at 8 (row.Round 1 1 3) ∷ at 9 (row.Got 1 0 1) ∷ at 12 (row.Round 1 2 3) ∷ []

abbrev jobs_in_line : List Job
jobs_in_line = jobs_in (two (thread 0 0 (Compute 1 ∷ [])) (thread 1 0 (Wait 0 ∷ Compute 3 ∷ []))) [] in_line

behind_another_round : jobs_in_line ≡ job 1 1 5 5 8 3 0 0 (parts 0 3 0 0) ∷ job 1 2 6 9 12 6 2 0 (parts 0 4 0 0) ∷ []
behind_another_round = refl

-- queued ticks and parts sum to the response
abbrev sum_of : Job → ℕ
sum_of job = job.queued + all_ticks job.stood

parts_sum : map sum_of jobs_in_line ≡ map (λ (job : Job). job.response) jobs_in_line
parts_sum = refl

-- Two workers wait first for one notification. Its deadline is the greater one of them.
abbrev pool : System
pool = two (thread 0 4 (Wait 0 ∷ Compute 3 ∷ [])) (thread 1 12 (Wait 0 ∷ Compute 2 ∷ []))

abbrev held_in_the_pool : List Row
held_in_the_pool = at 0 (row.Release 0) ∷ at 0 (row.Run 0) ∷ at 1 (row.Stop 0 why.Spent 1 (Some 40)) ∷ at 8 (row.Hold 0 1) ∷ []

before_the_greater : findings pool 19 held_in_the_pool ≡ found 19 (finding.Never 0 4) ∷ found 19 (finding.Never 1 12) ∷ []
before_the_greater = refl

at_the_greater : findings pool 20 held_in_the_pool ≡ found 20 (finding.Never 0 4) ∷ found 20 (finding.Never 1 12) ∷ found 20 (finding.Untaken 0 1 12 12 8) ∷ []
at_the_greater = refl

-- A word that any worker was given is enough for both. The round under way is told by its thread, and the word to come by its notification.
abbrev worked_on : List Row
worked_on =
    at 0 (row.Release 0) ∷ at 0 (row.Run 0) ∷ at 1 (row.Hold 0 1) ∷ at 2 (row.Got 0 0 1) ∷ at 3 (row.Stop 0 why.Spent 3 (Some 40)) ∷ at 4 (row.Hold 0 2) ∷ []

round_and_word : findings pool 16 worked_on
    ≡ found 16 (finding.Overdue 0 1 15 4 1 0 (parts 0 2 13 0)) ∷ found 16 (finding.Untaken 0 2 12 12 4) ∷ []
round_and_word = refl

-- The first worker waits for its budget when a word is set at 4. The second one takes it at 6, and the first one has the next, set at 9: its round
-- counts from 9 on.
abbrev taken_by_another : List Row
taken_by_another =
    at 0 (row.Release 0) ∷ at 0 (row.Run 0) ∷ at 1 (row.Stop 0 why.Spent 1 (Some 10)) ∷ at 1 (row.Release 1) ∷ at 1 (row.Run 1) ∷ at 4 (row.Hold 0 1)
    ∷ at 6 (row.Got 1 0 1) ∷ at 9 (row.Hold 0 1) ∷ at 10 (row.Release 0) ∷ at 10 (row.Stop 1 why.Preempt 9 None) ∷ at 10 (row.Run 0) ∷ at 11 (row.Got 0 0 1)
    ∷ at 14 (row.Round 0 1 3) ∷ []

counted_from_the_next : jobs_in pool [] taken_by_another ≡ job 0 1 9 11 14 5 0 0 (parts 0 4 1 0) ∷ []
counted_from_the_next = refl

-- a wait for a notification that is not the script's first item begins no round
abbrev second_wait : System
second_wait = two (thread 0 5 (Compute 1 ∷ Wait 0 ∷ Compute 2 ∷ [])) (thread 1 12 (Wait 0 ∷ Compute 2 ∷ []))

taken_within_a_round : findings second_wait 30 (at 8 (row.Hold 0 1) ∷ []) ≡ found 30 (finding.Never 0 5) ∷ found 30 (finding.Never 1 12) ∷ []
taken_within_a_round = refl

one_without_a_deadline : findings (two (thread 0 0 (Wait 0 ∷ Compute 3 ∷ [])) (thread 1 12 (Wait 0 ∷ Compute 2 ∷ []))) 30 (at 8 (row.Hold 0 1) ∷ [])
    ≡ found 30 (finding.Never 1 12) ∷ []
one_without_a_deadline = refl

-- in one pass over the scripts
abbrev at_last : List ThreadPart → Option ℕ
at_last threads = known_due (due_parts 0 threads Unused)

greatest_of_two : at_last (thread 0 2 (Wait 0 ∷ Compute 2 ∷ []) ∷ thread 0 0 (Signal 0 1 ∷ []) ∷ thread 0 20 (Wait 0 ∷ Compute 2 ∷ []) ∷ []) ≡ Some 20
greatest_of_two = refl

waits_twice : at_last (thread 0 2 (Wait 0 ∷ Compute 2 ∷ Wait 0 ∷ Compute 1 ∷ []) ∷ thread 0 20 (Wait 0 ∷ Compute 2 ∷ []) ∷ []) ≡ None
waits_twice = refl

waits_for_none : at_last (thread 0 2 (Wait 1 ∷ Compute 2 ∷ []) ∷ []) ≡ None
waits_for_none = refl
