-- Worked values: badges, words and waiters of one notification.
use Rattle.std.proofs.Common.{◌≡◌, ℕ, true, false, [], ◌∷◌, refl}
use Rattle.mcs_ticks.specs.declared.queue.Queued.{Queued}
use Rattle.mcs_notify.specs.declared.posted.Posted.TheVariants.{Woke, Held}
use Rattle.mcs_notify.specs.declared.posted.Waited.TheVariants.{Got, Blocks}
use Rattle.mcs_notify.specs.Note.{Note, quiet_note, posted, after_post, waited, after_wait, is_waiting}

abbrev queued : ℕ → ℕ → Queued
queued thread priority = record { thread = thread; priority = priority }

abbrev held : ℕ → Note
held word = record { word = word; waiters = [] }

-- threads 4, 2 and 0 wait, at priorities 1, 9 and 9
abbrev three_wait : Note
three_wait = record { word = 0; waiters = queued 4 1 ∷ queued 2 9 ∷ queued 0 9 ∷ [] }

a_first_badge : posted 5 quiet_note ≡ Held 5
a_first_badge = refl

a_second_badge : posted 6 (held 5) ≡ Held 7
a_second_badge = refl

the_same_badge_again : after_post (posted 4 (held 5)) (held 5) ≡ held 5
the_same_badge_again = refl

longest_of_the_greatest : posted 6 three_wait ≡ Woke 2 6
longest_of_the_greatest = refl

the_others_wait_on : after_post (Woke 2 6) three_wait ≡ record { word = 0; waiters = queued 4 1 ∷ queued 0 9 ∷ [] }
the_others_wait_on = refl

a_word_is_taken : waited (held 7) ≡ Got 7
a_word_is_taken = refl

the_word_is_gone : after_wait (Got 7) (queued 3 2) (held 7) ≡ quiet_note
the_word_is_gone = refl

at_no_word_it_blocks : waited three_wait ≡ Blocks
at_no_word_it_blocks = refl

it_waits_behind_the_others : after_wait Blocks (queued 3 9) (record { word = 0; waiters = queued 2 9 ∷ [] }) ≡ record { word = 0; waiters = queued 2 9 ∷ queued 3 9 ∷ [] }
it_waits_behind_the_others = refl

thread_two_waits : is_waiting 2 (quiet_note ∷ three_wait ∷ []) ≡ true
thread_two_waits = refl

thread_three_does_not : is_waiting 3 (quiet_note ∷ three_wait ∷ []) ≡ false
thread_three_does_not = refl
