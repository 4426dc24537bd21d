-- Figures that were worked by hand, of the rows of small systems.
use Rattle.std.specs.Prelude.{◌≡◌, ℕ, List, [], ◌∷◌, Some, None, refl}
use Rattle.mcs_ticks.specs.declared.row.Row.{Row}
use Rattle.mcs_ticks.specs.declared.row.What.{What}
use Rattle.mcs_ticks.specs.declared.row.What.TheVariants as row
use Rattle.mcs_ticks.specs.declared.row.Why.TheVariants as why
use Rattle.mcs_control.specs.declared.config.Config.{Config}
use Rattle.mcs_control.specs.declared.config.Mode.TheVariants as mode
use Rattle.mcs_control.specs.declared.config.Order.{Order}
use Rattle.mcs_script.specs.declared.item.Item.{Item}
use Rattle.mcs_script.specs.declared.item.Item.TheVariants.{Compute, Signal, Wait, Yield}
use Rattle.mcs_system.specs.declared.part.ThreadPart.{ThreadPart}
use Rattle.mcs_system.specs.System.{System}
use Rattle.mcs_histogram.specs.Buckets.{doublings}
use Rattle.mcs_verdict.specs.Findings.{past_of}
use Rattle.mcs_table.specs.declared.figures.Margin.TheVariants.{Left, Over}
use Rattle.mcs_table.specs.Rounds.{responses_of, margin, rounds_in}
use Rattle.mcs_table.specs.Signals.{signals_for}
use Rattle.mcs_table.specs.Shares.{millionths}
use Rattle.mcs_table.specs.Unused.{most_before, unused_of}
use Rattle.mcs_table.specs.Figures.{figures_of}

-- a thread: its context, deadline and script
abbrev thread : ℕ → ℕ → List Item → ThreadPart
thread context deadline script =
    record { name = []; context = context; priority = 5; start = 0; rounds = 0; deadline = deadline; script = script }

abbrev config : ℕ → ℕ → Config
config budget period = record { budget = budget; period = period; extra = 0 }

-- threads 0 and 1 with a context each, the first of 3 ticks in 10, and one notification
abbrev two : List Order → ThreadPart → ThreadPart → System
two orders a b =
    record {
      cores = 1;
      delay = 1;
      call = 1;
      min_budget = 1;
      contexts = record { name = []; core = 0; config = config 3 10; mode = mode.Sporadic }
          ∷ record { name = []; core = 0; config = config 20 20; mode = mode.Sporadic } ∷ [];
      notes = record { name = []; core = 0; word = 0 } ∷ [];
      threads = a ∷ b ∷ [];
      orders = orders;
      links = [];
      servers = 0;
      sources = [];
      beats = [];
      chains = [];
    }

abbrev at : ℕ → What → Row
at moment what = record { moment = moment; core = 0; what = what }

-- ---- rounds

-- Thread 0 signals. Thread 1 waits first: its round begins at 2 with a word that was set at 1, and
-- ends at 16. Its response is 15, and that of its row 14. A second word is set at 11, a signal at
-- 12 is lost, and one at 13 is merged.
abbrev looped : List Row
looped =
    past_of []
    (at 0 (row.Release 0) ∷ at 0 (row.Release 1) ∷ at 0 (row.Run 0) ∷ at 1 (row.Signal 0 0 1) ∷ at 1 (row.Hold 0 1)
    ∷ at 1 (row.Stop 0 why.Spent 1 (Some 10)) ∷ at 1 (row.Run 1) ∷ at 2 (row.Got 1 0 1) ∷ at 10 (row.Release 0)
    ∷ at 10 (row.Stop 1 why.Preempt 9 None) ∷ at 10 (row.Run 0) ∷ at 11 (row.Hold 0 1) ∷ at 12 (row.Hold 0 1)
    ∷ at 12 (row.Stop 0 why.Spent 2 (Some 20)) ∷ at 12 (row.Run 1) ∷ at 13 (row.Hold 0 3) ∷ at 16 (row.Round 1 1 14)
    ∷ at 17 (row.Got 1 0 3) ∷ [])

abbrev waits : ℕ → System
waits deadline = two [] (thread 0 0 (Signal 0 1 ∷ [])) (thread 1 deadline (Wait 0 ∷ Compute 12 ∷ []))

-- it misses the deadline of 14 by a tick, by its activation alone
missed_and_not_late :
    rounds_in (waits 14) 20 1 looped
    ≡ record { ended = 1; greatest = Some 15; fiftieth = Some 15; ninetieth = Some 15; ninety_ninth = Some 15; missed = 1; late = 0 }
unfolding doublings
missed_and_not_late = refl

-- a response of the deadline itself is none too late
at_the_deadline :
    rounds_in (waits 15) 20 1 looped
    ≡ record { ended = 1; greatest = Some 15; fiftieth = Some 15; ninetieth = Some 15; ninety_ninth = Some 15; missed = 0; late = 0 }
unfolding doublings
at_the_deadline = refl

missed_and_late :
    rounds_in (waits 13) 20 1 looped
    ≡ record { ended = 1; greatest = Some 15; fiftieth = Some 15; ninetieth = Some 15; ninety_ninth = Some 15; missed = 1; late = 1 }
unfolding doublings
missed_and_late = refl

-- the other thread ended none
no_round :
    rounds_in (waits 13) 20 0 looped
    ≡ record { ended = 0; greatest = None; fiftieth = None; ninetieth = None; ninety_ninth = None; missed = 0; late = 0 }
no_round = refl

-- of threads that begin with a compute: thread 0 runs for five rounds, and thread 1 is ready for one, of 20 ticks
abbrev rising : List Row
rising =
    past_of []
    (at 0 (row.Release 0) ∷ at 0 (row.Release 1) ∷ at 0 (row.Run 0) ∷ at 1 (row.Round 0 1 1) ∷ at 5 (row.Round 0 2 4)
    ∷ at 7 (row.Round 0 3 2) ∷ at 12 (row.Round 0 4 5) ∷ at 15 (row.Round 0 5 3) ∷ at 20 (row.Round 1 1 20) ∷ [])

abbrev computes : System
computes = two [] (thread 0 4 (Compute 1 ∷ [])) (thread 1 0 (Compute 1 ∷ []))

five : responses_of computes 0 rising ≡ 3 ∷ 5 ∷ 2 ∷ 4 ∷ 1 ∷ []
five = refl

-- of five in rising order the third is the 50th percentile, and the last the 90th
five_rounds :
    rounds_in computes 20 0 rising
    ≡ record { ended = 5; greatest = Some 5; fiftieth = Some 3; ninetieth = Some 5; ninety_ninth = Some 5; missed = 1; late = 1 }
unfolding doublings
five_rounds = refl

-- those of another thread don't count; without a deadline there is no miss
one_round :
    rounds_in computes 20 1 rising
    ≡ record { ended = 1; greatest = Some 20; fiftieth = Some 20; ninetieth = Some 20; ninety_ninth = Some 20; missed = 0; late = 0 }
unfolding doublings
one_round = refl

-- ---- margins
before_it : margin 20 (Some 15) ≡ Some (Left 5)
before_it = refl

at_it : margin 15 (Some 15) ≡ Some (Left 0)
at_it = refl

after_it : margin 14 (Some 15) ≡ Some (Over 1)
after_it = refl

no_deadline : margin 0 (Some 15) ≡ None
no_deadline = refl

no_response : margin 14 None ≡ None
no_response = refl

-- ---- signals
one_of_each : signals_for (waits 14) (Some 0) looped ≡ Some (record { lost = 1; merged = 1 })
one_of_each = refl

no_wait : signals_for (waits 14) None looped ≡ None
no_wait = refl

-- ---- shares, and budget that was not used
a_third : millionths 1 3 ≡ 333333
a_third = refl

of_nothing : millionths 0 0 ≡ 0
of_nothing = refl

-- of a budget of 4 in 10: whole periods, and a budget or a part of it in the last
two_periods : most_before 20 (config 4 10) ≡ 8
two_periods = refl

and_a_tick : most_before 21 (config 4 10) ≡ 9
and_a_tick = refl

and_a_budget : most_before 25 (config 4 10) ≡ 12
and_a_budget = refl

-- a round robin context may run in each tick
each_tick : most_before 25 (config 10 10) ≡ 25
each_tick = refl

-- thread 0 yields after 3 ticks in each of two periods
abbrev yields : List Row
yields =
    past_of []
    (at 0 (row.Release 0) ∷ at 0 (row.Run 0) ∷ at 3 (row.Round 0 1 3) ∷ at 3 (row.Stop 0 why.Yield 3 (Some 10)) ∷ at 10 (row.Release 0)
    ∷ at 10 (row.Run 0) ∷ at 13 (row.Round 0 2 10) ∷ at 13 (row.Stop 0 why.Yield 3 (Some 20)) ∷ [])

abbrev periodic : List Order → System
periodic orders = two orders (thread 0 8 (Compute 2 ∷ Yield ∷ [])) (thread 1 0 (Wait 0 ∷ Compute 1 ∷ []))

all_used : unused_of (periodic []) 19 yields 0 ≡ Some 0
all_used = refl

a_budget_left : unused_of (periodic []) 29 yields 0 ≡ Some 3
a_budget_left = refl

-- the other context lets nothing run
none_used : unused_of (periodic []) 19 yields 1 ≡ Some 19
none_used = refl

-- an order names the first one
ordered : unused_of (periodic (record { moment = 7; context = 0; config = config 4 10 } ∷ [])) 19 yields 0 ≡ None
ordered = refl

not_ordered : unused_of (periodic (record { moment = 7; context = 0; config = config 4 10 } ∷ [])) 19 yields 1 ≡ Some 19
not_ordered = refl

-- ---- all figures of a thread
all_figures :
    figures_of (periodic []) 20 yields 0
    ≡ record {
      core = 0;
      priority = 5;
      share = record { budget = 3; period = 10; granted = 300000; used = 300000 };
      rounds = record { ended = 2; greatest = Some 3; fiftieth = Some 3; ninetieth = Some 3; ninety_ninth = Some 3; missed = 0; late = 1 };
      deadline = 8;
      margin = Some (Left 5);
      signals = None;
      stood = record { pending = 0; ready = 0; running = 6; throttled = 14; blocked = 0; server = 0; done = 0 };
    }
unfolding doublings
all_figures = refl

-- and of one that begins with a wait, and never ran
no_figures :
    figures_of (periodic []) 20 yields 1
    ≡ record {
      core = 0;
      priority = 5;
      share = record { budget = 20; period = 20; granted = 1000000; used = 0 };
      rounds = record { ended = 0; greatest = None; fiftieth = None; ninetieth = None; ninety_ninth = None; missed = 0; late = 0 };
      deadline = 0;
      margin = None;
      signals = Some (record { lost = 0; merged = 0 });
      stood = record { pending = 20; ready = 0; running = 0; throttled = 0; blocked = 0; server = 0; done = 0 };
    }
no_figures = refl
