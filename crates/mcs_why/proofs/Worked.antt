-- Spans and running ticks that were worked by hand, of the rows of small systems.
use Rattle.std.specs.Prelude.{◌≡◌, ℕ, Bool, true, false, List, [], ◌∷◌, map, Option, Some, None, refl}
use Rattle.std.specs.List.{range_with_len}
use Rattle.mcs_ticks.specs.declared.row.Row.{Row}
use Rattle.mcs_ticks.specs.declared.row.What.{What}
use Rattle.mcs_ticks.specs.declared.row.What.TheVariants as row
use Rattle.mcs_ticks.specs.declared.row.Why.TheVariants as why
use Rattle.mcs_script.specs.declared.item.Item.{Item}
use Rattle.mcs_script.specs.declared.item.Item.TheVariants.{Compute, Signal, Wait, On}
use Rattle.mcs_control.specs.declared.config.Mode.TheVariants as mode
use Rattle.mcs_system.specs.declared.part.ContextPart.{ContextPart}
use Rattle.mcs_system.specs.declared.part.ThreadPart.{ThreadPart}
use Rattle.mcs_system.specs.System.{System}
use Rattle.mcs_verdict.specs.Findings.{past_of}
use Rattle.mcs_why.specs.declared.span.Span.{Span}
use Rattle.mcs_why.specs.declared.span.Sought.TheVariants.{There, Missing}
use Rattle.mcs_why.specs.Spans.{sought}
use Rattle.mcs_why.specs.Running.{ran_in, idle_in, is_within}

abbrev context : ℕ → ℕ → ContextPart
context budget period =
    record { name = []; core = 0; config = record { budget = budget; period = period; extra = 0 }; mode = mode.Sporadic }

-- a thread: its context, priority, start and script
abbrev thread : ℕ → ℕ → ℕ → List Item → ThreadPart
thread context priority start script =
    record { name = []; context = context; priority = priority; start = start; rounds = 0; deadline = 0; script = script }

abbrev system : List ThreadPart → System
system threads =
    record {
      cores = 1;
      delay = 1;
      call = 1;
      min_budget = 1;
      contexts = context 1 1000 ∷ context 50 100 ∷ context 50 100 ∷ context 50 100 ∷ [];
      notes = record { name = []; core = 0; word = 0 } ∷ [];
      threads = threads;
      orders = [];
      links = [];
      servers = 0;
      sources = [];
      beats = [];
      chains = [];
    }

abbrev at : ℕ → What → Row
at moment what = record { moment = moment; core = 0; what = what }

-- a round: its thread, number and span, whether it ended, and its activation and beginning
abbrev span : ℕ → ℕ → ℕ → ℕ → Bool → Option ℕ → Option ℕ → Span
span thread number from to ended activated begun =
    record { thread = thread; number = number; core = 0; from = from; to = to; ended = ended; activated = activated; begun = begun }

-- A lock: thread 0 frees it first, 1 is the low thread, 2 the one between, and 3 the high one. The
-- low one takes the lock at 2 and frees it at 29. The high one waits for it from 5 on, and the one
-- between runs from 6 to 26.
abbrev lock : System
lock =
    system
    (thread 0 255 0 (Signal 0 1 ∷ []) ∷ thread 1 1 0 (Wait 0 ∷ Compute 5 ∷ Signal 0 1 ∷ []) ∷ thread 2 5 6 (Compute 20 ∷ [])
    ∷ thread 3 9 4 (Wait 0 ∷ Compute 2 ∷ Signal 0 1 ∷ []) ∷ [])

abbrev to_the_wait : List Row → List Row
to_the_wait rest =
    at 0 (row.Release 0) ∷ at 0 (row.Release 1) ∷ at 0 (row.Run 0) ∷ at 1 (row.Signal 0 0 1) ∷ at 1 (row.Hold 0 1) ∷ at 1 (row.Round 0 1 1)
    ∷ at 1 (row.Stop 0 why.Done 1 None) ∷ at 1 (row.Run 1) ∷ at 2 (row.Got 1 0 1) ∷ at 4 (row.Release 3) ∷ at 4 (row.Stop 1 why.Preempt 3 None)
    ∷ at 4 (row.Run 3) ∷ at 5 (row.Stop 3 why.Wait 1 None) ∷ at 5 (row.Run 1) ∷ at 6 (row.Release 2) ∷ at 6 (row.Stop 1 why.Preempt 1 None)
    ∷ at 6 (row.Run 2) ∷ rest

abbrev to_the_wake : List Row → List Row
to_the_wake rest =
    at 26 (row.Round 2 1 20) ∷ at 26 (row.Stop 2 why.Done 20 None) ∷ at 26 (row.Run 1) ∷ at 29 (row.Signal 1 0 1) ∷ at 29 (row.Wake 3 0 1 None)
    ∷ at 29 (row.Round 1 1 27) ∷ at 29 (row.Stop 1 why.Done 3 None) ∷ at 29 (row.Run 3) ∷ rest

abbrev locked : List Row
locked =
    past_of []
    (to_the_wait
    (to_the_wake (at 32 (row.Signal 3 0 1) ∷ at 32 (row.Hold 0 1) ∷ at 32 (row.Round 3 1 3) ∷ at 32 (row.Stop 3 why.Done 3 None) ∷ [])))

-- the high thread's round is activated by its wake at 29, and told from its wait at 5 on
high_round : sought lock 1000 locked 3 1 ≡ There (span 3 1 5 32 true (Some 29) (Some 29))
high_round = refl

-- of the 24 ticks for which it waited the low thread ran 4, and the one between 20
while_it_waited : map (λ thread. ran_in 0 thread locked 5 29) (range_with_len 0 4) ≡ 0 ∷ 4 ∷ 20 ∷ 0 ∷ []
while_it_waited = refl

in_its_span : map (λ thread. ran_in 0 thread locked 5 32) (range_with_len 0 4) ≡ 0 ∷ 4 ∷ 20 ∷ 3 ∷ []
in_its_span = refl

never_idle : idle_in 0 locked 5 32 ≡ 0
never_idle = refl

-- the low thread took a word that was set at 1, at 2
low_round : sought lock 1000 locked 1 1 ≡ There (span 1 1 1 29 true (Some 1) (Some 2))
low_round = refl

-- which have no second round, since they are done
no_second_round : sought lock 1000 locked 3 2 ≡ Missing 1
no_second_round = refl

no_round_is_number_0 : sought lock 1000 locked 3 0 ≡ Missing 1
no_round_is_number_0 = refl

-- at 20 the high thread waits, and the span of its round begins there; it is its first
abbrev waiting : List Row
waiting = past_of [] (to_the_wait [])

yet_to_be_woken : sought lock 20 waiting 3 1 ≡ There (span 3 1 5 20 false None None)
yet_to_be_woken = refl

while_it_waits : map (λ thread. ran_in 0 thread waiting 5 20) (range_with_len 0 4) ≡ 0 ∷ 1 ∷ 14 ∷ 0 ∷ []
while_it_waits = refl

no_second_round_yet : sought lock 20 waiting 3 2 ≡ Missing 1
no_second_round_yet = refl

-- at 30 it runs, and at 20 the one between does
woken : sought lock 30 (past_of [] (to_the_wait (to_the_wake []))) 3 1 ≡ There (span 3 1 5 30 false (Some 29) (Some 29))
woken = refl

under_way : sought lock 20 waiting 2 1 ≡ There (span 2 1 6 20 false (Some 6) (Some 6))
under_way = refl

-- a thread that starts after the horizon has no round
not_started : sought lock 5 [] 2 1 ≡ Missing 0
not_started = refl

-- A loop that exhausts its budget: its second round began at 3, when the first ended, and is
-- activated by the release at 10. Its core is idle meanwhile.
abbrev loop : System
loop = system (thread 1 5 0 (Compute 3 ∷ []) ∷ [])

abbrev spends : List Row → List Row
spends rest =
    past_of []
    (at 0 (row.Release 0) ∷ at 0 (row.Run 0) ∷ at 3 (row.Round 0 1 3) ∷ at 3 (row.Stop 0 why.Spent 3 (Some 10)) ∷ rest)

abbrev goes_on : List Row
goes_on = at 10 (row.Release 0) ∷ at 10 (row.Run 0) ∷ at 13 (row.Round 0 2 10) ∷ at 13 (row.Stop 0 why.Spent 3 (Some 20)) ∷ []

second_round : sought loop 15 (spends goes_on) 0 2 ≡ There (span 0 2 10 13 true (Some 10) (Some 3))
second_round = refl

-- a third is under way, and not activated
third_round : sought loop 15 (spends goes_on) 0 3 ≡ There (span 0 3 13 15 false None (Some 13))
third_round = refl

no_fourth_round : sought loop 15 (spends goes_on) 0 4 ≡ Missing 3
no_fourth_round = refl

-- it ran 3 ticks from 2 to 12, and its core was idle for 7
around_its_pause : ran_in 0 0 (spends goes_on) 2 12 ≡ 3
around_its_pause = refl

idle_meanwhile : idle_in 0 (spends goes_on) 2 12 ≡ 7
idle_meanwhile = refl

-- another core is idle
other_core : idle_in 1 (spends goes_on) 2 12 ≡ 10
other_core = refl

-- A word that is held while its thread still runs the round before: the span of the next round
-- begins when the word was set.
abbrev late : System
late = system (thread 1 5 0 (Wait 0 ∷ Compute 9 ∷ []) ∷ [])

held :
    sought late 9
    (past_of [] (at 0 (row.Hold 0 1) ∷ at 0 (row.Run 0) ∷ at 1 (row.Got 0 0 1) ∷ at 4 (row.Hold 0 2) ∷ at 8 (row.Round 0 1 7) ∷ [])) 0 2
    ≡ There (span 0 2 4 9 false (Some 4) None)
held = refl

-- A thread that never reaches its first wait is on the way to it since it starts, and another one runs in its place.
abbrev kept_away : System
kept_away = system (thread 1 1 2 (Wait 0 ∷ Compute 1 ∷ []) ∷ thread 2 5 0 (Compute 300 ∷ []) ∷ [])

abbrev another_runs : List Row
another_runs = past_of [] (at 0 (row.Release 1) ∷ at 0 (row.Run 1) ∷ at 2 (row.Release 0) ∷ [])

never_at_its_wait : sought kept_away 30 another_runs 0 1 ≡ There (span 0 1 2 30 false None None)
never_at_its_wait = refl

ran_in_its_place : map (λ thread. ran_in 0 thread another_runs 2 30) (range_with_len 0 2) ≡ 0 ∷ 28 ∷ []
ran_in_its_place = refl

only_its_first : sought kept_away 30 another_runs 0 2 ≡ Missing 1
only_its_first = refl

starts_at_the_horizon : sought kept_away 2 another_runs 0 1 ≡ There (span 0 1 2 2 false None None)
starts_at_the_horizon = refl

starts_after_the_horizon : sought kept_away 1 [] 0 1 ≡ Missing 0
starts_after_the_horizon = refl

-- after a round it is so since that ended, and no more after its last one
abbrev on_the_way_again : List Row → List Row
on_the_way_again rest = past_of [] (at 0 (row.Hold 0 1) ∷ at 0 (row.Run 0) ∷ at 1 (row.Got 0 0 1) ∷ at 8 (row.Round 0 1 7) ∷ rest)

kept_away_again : sought late 12 (on_the_way_again (at 8 (row.Stop 0 why.Preempt 8 None) ∷ [])) 0 2 ≡ There (span 0 2 8 12 false None None)
kept_away_again = refl

after_its_last : sought late 12 (on_the_way_again (at 8 (row.Stop 0 why.Done 8 None) ∷ [])) 0 2 ≡ Missing 1
after_its_last = refl

-- A word for which there is nothing to do begins no round. The thread waits for the next one since it stopped for that.
abbrev handles : System
handles = system (thread 1 5 0 (Wait 0 ∷ On 1 ∷ Compute 9 ∷ []) ∷ [])

abbrev woken_for_nothing : List Row → List Row
woken_for_nothing rest =
    past_of []
    (at 0 (row.Run 0) ∷ at 1 (row.Stop 0 why.Wait 1 None) ∷ at 3 (row.Wake 0 0 4 None) ∷ at 3 (row.Run 0) ∷ at 4 (row.Stop 0 why.Wait 1 None) ∷ rest)

waits_again : sought handles 9 (woken_for_nothing []) 0 1 ≡ There (span 0 1 4 9 false None None)
waits_again = refl

woken_for_something : sought handles 9 (woken_for_nothing (at 7 (row.Wake 0 0 1 None) ∷ [])) 0 1 ≡ There (span 0 1 4 9 false (Some 7) (Some 7))
woken_for_something = refl

-- rows at both ends of a span are shown
first_shown : is_within 0 5 32 (at 5 (row.Run 1)) ≡ true
first_shown = refl

last_shown : is_within 0 5 32 (at 32 (row.Run 1)) ≡ true
last_shown = refl

before_it : is_within 0 5 32 (at 4 (row.Run 1)) ≡ false
before_it = refl

after_it : is_within 0 5 32 (at 33 (row.Run 1)) ≡ false
after_it = refl

elsewhere : is_within 1 5 32 (at 6 (row.Run 1)) ≡ false
elsewhere = refl
