-- Reports that were worked by hand, of the rows and of whole schedules.
use Rattle.std.specs.Prelude.{◌≡◌, ℕ, List, [], ◌∷◌, Some, None, map, sum, refl}
use Rattle.mcs_ticks.specs.declared.row.Row.{Row}
use Rattle.mcs_ticks.specs.declared.row.What.{What}
use Rattle.mcs_ticks.specs.declared.row.What.TheVariants as row
use Rattle.mcs_ticks.specs.declared.row.Why.TheVariants as why
use Rattle.mcs_script.specs.declared.item.Item.{Item}
use Rattle.mcs_script.specs.declared.item.Item.TheVariants.{Compute, Signal, Wait, Yield}
use Rattle.mcs_control.specs.declared.config.Mode.TheVariants as mode
use Rattle.mcs_system.specs.declared.part.ContextPart.{ContextPart}
use Rattle.mcs_system.specs.declared.part.ThreadPart.{ThreadPart}
use Rattle.mcs_system.specs.System.{System}
use Rattle.mcs_core.specs.Clock.{schedule}
use Rattle.mcs_report.specs.declared.reports.ThreadReport.{ThreadReport}
use Rattle.mcs_report.specs.declared.reports.Reports.{Reports}
use Rattle.mcs_laws.specs.Demand.{ticks_run, demand_of}
use Rattle.mcs_report.specs.Reports.{run_lengths, thread_report, reports_of}
use Rattle.mcs_report.specs.Tally.{opened, finished}
use Rattle.mcs_report.specs.Places.{threads_on, place_of, place_on}
use Rattle.mcs_report.specs.CoreTally.{CoreTally, core_tally_of, joined}
use Rattle.mcs_report.specs.laws.ByCore.{rows_within}

abbrev context : ℕ → ℕ → ContextPart
context budget period = record { name = []; core = 0; config = record { budget = budget; period = period; extra = 0 }; mode = mode.Sporadic }

-- a thread: its context, priority, rounds, deadline and script
abbrev thread : ℕ → ℕ → ℕ → ℕ → List Item → ThreadPart
thread context priority rounds deadline script =
    record { name = []; context = context; priority = priority; start = 0; rounds = rounds; deadline = deadline; script = script }

abbrev one_core : List ContextPart → List ThreadPart → System
one_core contexts threads =
    record {
      cores = 1;
      delay = 1;
      call = 1;
      min_budget = 1;
      contexts = contexts;
      notes = record { name = []; core = 0; word = 0 } ∷ [];
      threads = threads;
      orders = [];
      links = [];
      servers = 0;
      sources = [];
      beats = [];
      chains = [];
    }

abbrev of_schedule : System → ℕ → Reports
of_schedule system horizon = reports_of system horizon (schedule system horizon)

-- a report: what it ran, its rounds, responses, late rounds, spent heads and waits
abbrev report : ℕ → ℕ → ℕ → ℕ → ℕ → ℕ → ℕ → ℕ → ℕ → ThreadReport
report ran rounds least greatest total late spent throttled longest =
    record {
      ran = ran;
      rounds = rounds;
      least = least;
      greatest = greatest;
      total = total;
      late = late;
      spent = spent;
      throttled = throttled;
      longest = longest;
    }

-- budget 2 of 5 for five ticks of work
abbrev depletes : System
depletes = one_core (context 2 5 ∷ []) (thread 0 5 1 0 (Compute 5 ∷ []) ∷ [])

depletes_and_refills :
    of_schedule depletes 10
    ≡ record { threads = report 4 0 0 0 0 0 2 6 3 ∷ []; cores = record { busy = 4; idle = 6 } ∷ [] }
depletes_and_refills = refl

-- the run from 5 is open and counts up to the horizon
open_run_counts :
    of_schedule depletes 6
    ≡ record { threads = report 3 0 0 0 0 0 1 3 3 ∷ []; cores = record { busy = 3; idle = 3 } ∷ [] }
open_run_counts = refl

-- a thread of high priority is woken and preempts the one that signals it
wake_preempts :
    of_schedule
    (one_core
    (context 10 100 ∷ context 10 100 ∷ context 5 50 ∷ [])
    (thread 0 5 1 0 (Compute 2 ∷ Signal 0 1 ∷ Compute 4 ∷ [])
    ∷ thread 1 5 1 0 (Compute 2 ∷ [])
    ∷ thread 2 9 1 0 (Wait 0 ∷ Compute 1 ∷ [])
    ∷ []))
    11
    ≡ record {
      threads = report 7 1 9 9 9 0 0 0 0 ∷ report 2 1 11 11 11 0 0 0 0 ∷ report 2 1 1 1 1 0 0 0 0 ∷ [];
      cores = record { busy = 11; idle = 0 } ∷ [];
    }
wake_preempts = refl

-- the responses are 2 and 10, and the deadline is 9
one_response_late :
    of_schedule (one_core (context 4 10 ∷ []) (thread 0 5 2 9 (Compute 1 ∷ Yield ∷ []) ∷ [])) 12
    ≡ record { threads = report 4 2 2 10 12 1 0 0 0 ∷ []; cores = record { busy = 4; idle = 8 } ∷ [] }
one_response_late = refl

abbrev at : ℕ → What → Row
at moment what = record { moment = moment; core = 0; what = what }

-- a wait counts up to the horizon alone
order_stops_the_runner :
    thread_report
    10
    (at 0 (row.Run 0)
    ∷ at 4 (row.Stop 0 why.Order 4 None)
    ∷ at 4 (row.Run 0)
    ∷ at 10 (row.Stop 0 why.Spent 6 (Some 54))
    ∷ [])
    0
    0
    ≡ report 10 0 0 0 0 0 1 0 0
order_stops_the_runner = refl

-- a sum stops at the greatest number
sums_end_at_the_greatest :
    thread_report 2 (at 1 (row.Round 0 1 9) ∷ at 2 (row.Round 0 2 18446744073709551615) ∷ []) 0 9
    ≡ report 0 2 9 18446744073709551615 18446744073709551615 1 0 0 0
sums_end_at_the_greatest = refl

-- cores without threads
idle_cores :
    of_schedule (record (one_core [] []) { cores = 2 }) 1
    ≡ record { threads = []; cores = record { busy = 0; idle = 1 } ∷ record { busy = 0; idle = 1 } ∷ [] }
idle_cores = refl

-- budget 2 of 5: of ten ticks four are run, which is all that it may
runs_four_ticks : ticks_run depletes 0 10 ≡ 4
runs_four_ticks = refl

may_run_four_ticks : demand_of depletes 0 10 ≡ 4
may_run_four_ticks = refl

-- the second period began at 5
runs_three_ticks : ticks_run depletes 0 6 ≡ 3
runs_three_ticks = refl

may_run_four_ticks_by_six : demand_of depletes 0 6 ≡ 4
may_run_four_ticks_by_six = refl

-- a whole slice for each period is every tick, and more if the last period has not ended
may_run_always : demand_of (one_core (context 4 4 ∷ []) (thread 0 5 1 0 (Compute 9 ∷ []) ∷ [])) 0 7 ≡ 8
may_run_always = refl

-- an order to 4 of 10 at once lets the thread run more than 1 in 10: the tick at 0, and those from
-- 7 on
abbrev raised : System
raised =
    record (one_core (context 1 10 ∷ []) (thread 0 5 1 0 (Compute 20 ∷ []) ∷ [])) {
      orders = record { moment = 0; context = 0; config = record { budget = 4; period = 10; extra = 0 } } ∷ [];
    }

an_order_lets_it_run_more : sum (run_lengths 10 0 (schedule raised 10)) ≡ 4
an_order_lets_it_run_more = refl

more_than_by_its_first_budget : demand_of raised 0 10 ≡ 1
more_than_by_its_first_budget = refl

-- core 1 has the threads 0 and 2, and core 0 has thread 1
abbrev two_cores : System
two_cores =
    record (one_core
    (record (context 5 10) { core = 1 } ∷ context 5 10 ∷ record (context 5 10) { core = 1 } ∷ [])
    (thread 0 5 1 0 (Compute 2 ∷ []) ∷ thread 1 5 1 0 (Compute 3 ∷ []) ∷ thread 2 4 1 9 (Compute 1 ∷ []) ∷ [])) {
      cores = 2;
    }

has_two_threads : map (λ thread. thread.context) (threads_on two_cores 1) ≡ 0 ∷ 2 ∷ []
has_two_threads = refl

first_of_its_core : place_of two_cores 1 ≡ 0
first_of_its_core = refl

second_of_its_core : place_on two_cores 1 2 ≡ Some 1
second_of_its_core = refl

no_place_on_another_core : place_on two_cores 0 2 ≡ None
no_place_on_another_core = refl

no_place_of_no_thread : place_on two_cores 0 3 ≡ None
no_place_of_no_thread = refl

-- the rows of thread 2 are counted at its place, and those of thread 1, of another core, and of
-- thread 3, which there is not, nowhere
counts_its_own_threads :
    (core_tally_of
    two_cores
    1
    10
    (at 1 (row.Run 2)
    ∷ at 2 (row.Run 1)
    ∷ at 4 (row.Stop 2 why.Done 3 None)
    ∷ at 4 (row.Round 2 1 4)
    ∷ at 5 (row.Round 1 1 5)
    ∷ at 6 (row.Round 3 1 6)
    ∷ [])).accounts
    ≡ opened 1 0 ∷ record (opened 1 9) { report = report 3 1 4 4 4 0 0 0 0 } ∷ []
counts_its_own_threads = refl

-- each core counts the rows of its turns, and together they report the schedule
abbrev tallies_by_core : List CoreTally
tallies_by_core =
    core_tally_of two_cores 0 6 (rows_within two_cores 0 0 7) ∷ core_tally_of two_cores 1 6 (rows_within two_cores 1 0 7) ∷ []

abbrev by_core_six : Reports
by_core_six =
    record {
      threads = report 2 1 2 2 2 0 0 0 0 ∷ report 3 1 3 3 3 0 0 0 0 ∷ report 1 1 3 3 3 0 0 0 0 ∷ [];
      cores = record { busy = 3; idle = 3 } ∷ record { busy = 3; idle = 3 } ∷ [];
    }

together_they_report : finished (joined two_cores 6 tallies_by_core) ≡ by_core_six
together_they_report = refl

as_the_schedule_does : of_schedule two_cores 6 ≡ by_core_six
as_the_schedule_does = refl

-- a core without its tally counts nothing
nothing_of_a_core_left_out :
    map (λ report. report.rounds) (finished (joined two_cores 6 (core_tally_of two_cores 0 6 (rows_within two_cores 0 0 7) ∷ []))).threads
    ≡ 0 ∷ 1 ∷ 0 ∷ []
nothing_of_a_core_left_out = refl
