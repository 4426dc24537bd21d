-- The queue by priority at worked sequences, one for each way to enter, and what is taken from it.
use Rattle.std.specs.Prelude.{◌≡◌, ℕ, List, [], ◌∷◌, Option, Some, None, refl}
use Rattle.mcs_ticks.specs.declared.queue.Queued.{Queued}
use Rattle.mcs_ticks.specs.Queue.{Command, answers, by_priority}
use Rattle.mcs_ticks.specs.Queue.Command.{EnterBack, EnterFront, Take}
use Rattle.mcs_ready.specs.Ready.{queued}

abbrev back : ℕ → ℕ → Command
back thread priority = EnterBack (queued thread priority)

abbrev front : ℕ → ℕ → Command
front thread priority = EnterFront (queued thread priority)

abbrev taken : ℕ → ℕ → Option Queued
taken thread priority = Some (queued thread priority)

-- what a queue that is empty at first answers
abbrev run : List Command → List (Option Queued)
run commands = answers by_priority commands []

first_in_first_out :
    run (back 0 5 ∷ back 1 5 ∷ back 2 5 ∷ Take ∷ Take ∷ Take ∷ Take ∷ [])
    ≡ taken 0 5 ∷ taken 1 5 ∷ taken 2 5 ∷ None ∷ []
first_in_first_out = refl

a_front_is_before_its_priority :
    run (back 0 5 ∷ back 1 5 ∷ front 2 5 ∷ Take ∷ Take ∷ Take ∷ [])
    ≡ taken 2 5 ∷ taken 0 5 ∷ taken 1 5 ∷ []
a_front_is_before_its_priority = refl

fronts_are_last_in_first_out :
    run (front 0 5 ∷ front 1 5 ∷ front 2 5 ∷ Take ∷ Take ∷ Take ∷ [])
    ≡ taken 2 5 ∷ taken 1 5 ∷ taken 0 5 ∷ []
fronts_are_last_in_first_out = refl

the_greatest_priority_first :
    run (back 0 1 ∷ back 1 255 ∷ back 2 0 ∷ back 3 64 ∷ back 4 63 ∷ Take ∷ Take ∷ Take ∷ Take ∷ Take ∷ [])
    ≡ taken 1 255 ∷ taken 3 64 ∷ taken 4 63 ∷ taken 0 1 ∷ taken 2 0 ∷ []
the_greatest_priority_first = refl

a_front_waits_for_greater_priorities :
    run (back 0 9 ∷ front 1 8 ∷ back 2 8 ∷ Take ∷ Take ∷ Take ∷ [])
    ≡ taken 0 9 ∷ taken 1 8 ∷ taken 2 8 ∷ []
a_front_waits_for_greater_priorities = refl

a_thread_enters_again :
    run (back 0 5 ∷ back 1 5 ∷ Take ∷ back 0 5 ∷ Take ∷ Take ∷ back 0 200 ∷ Take ∷ Take ∷ [])
    ≡ taken 0 5 ∷ taken 1 5 ∷ taken 0 5 ∷ taken 0 200 ∷ None ∷ []
a_thread_enters_again = refl

an_emptied_priority_is_entered_again :
    run (back 0 5 ∷ Take ∷ back 0 6 ∷ back 1 6 ∷ back 2 5 ∷ front 3 5 ∷ Take ∷ Take ∷ Take ∷ Take ∷ [])
    ≡ taken 0 5 ∷ taken 0 6 ∷ taken 1 6 ∷ taken 3 5 ∷ taken 2 5 ∷ []
an_emptied_priority_is_entered_again = refl

each_word_of_priorities :
    run (back 0 63 ∷ back 1 64 ∷ back 2 127 ∷ back 3 128 ∷ back 4 191 ∷ back 5 192 ∷ Take ∷ Take ∷ Take ∷ Take ∷ Take ∷ Take ∷ [])
    ≡ taken 5 192 ∷ taken 4 191 ∷ taken 3 128 ∷ taken 2 127 ∷ taken 1 64 ∷ taken 0 63 ∷ []
each_word_of_priorities = refl

six_threads :
    run (back 0 3 ∷ back 1 7 ∷ front 2 3 ∷ back 3 7 ∷ Take ∷ front 1 7 ∷ back 4 200 ∷ back 5 3 ∷ Take ∷ Take ∷ Take ∷ Take ∷ Take ∷ Take ∷ Take ∷ [])
    ≡ taken 1 7 ∷ taken 4 200 ∷ taken 1 7 ∷ taken 3 7 ∷ taken 2 3 ∷ taken 0 3 ∷ taken 5 3 ∷ None ∷ []
six_threads = refl
