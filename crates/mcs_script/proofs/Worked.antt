-- Worked values: items as they are written, and a walk through a script.
use Rattle.std.proofs.Common.{◌≡◌, ℕ, List, [], ◌∷◌, Ok, Err, Some, None, refl}
use Rattle.std.specs.Prelude.{codes}
use Rattle.mcs_script.specs.declared.fault.ItemFault.TheVariants.{UnknownWord, MissingPart, ExtraPart, BadNumber}
use Rattle.mcs_script.specs.declared.item.Item.{Item}
use Rattle.mcs_script.specs.declared.item.Item.TheVariants as item
use Rattle.mcs_script.specs.declared.moved.Moved.TheVariants.{Next, RoundEnds, AllDone}
use Rattle.mcs_script.specs.Raw.{read_as, read_new_as}
use Rattle.mcs_script.specs.Raw.Raw.{Compute, Signal, Wait, Yield, On, Call, Spin}
use Rattle.mcs_script.specs.Script.{first_place, move_after, place_after, goes_to, next_item, heard, left_after, cost}
use Rattle.mcs_script.specs.declared.place.Place.{Place}

five_ticks : read_as (codes "compute 5") ≡ Ok (Compute 5)
five_ticks = refl

spaces_around : read_as (codes "  yield ") ≡ Ok Yield
spaces_around = refl

runs_of_spaces : read_as (codes " signal   n  4294967295 ") ≡ Ok (Signal (codes "n") 4294967295)
runs_of_spaces = refl

a_name_as_it_stands : read_as (codes "wait 05") ≡ Ok (Wait (codes "05"))
a_name_as_it_stands = refl

greatest_compute : read_as (codes "compute 1099511627776") ≡ Ok (Compute 1099511627776)
greatest_compute = refl

no_ticks : read_as (codes "compute") ≡ Err MissingPart
no_ticks = refl

two_numbers : read_as (codes "compute 5 6") ≡ Err ExtraPart
two_numbers = refl

zero_ticks : read_as (codes "compute 0") ≡ Err BadNumber
zero_ticks = refl

leading_zero : read_as (codes "compute 05") ≡ Err BadNumber
leading_zero = refl

minus : read_as (codes "compute -1") ≡ Err BadNumber
minus = refl

plus : read_as (codes "compute +1") ≡ Err BadNumber
plus = refl

too_many_ticks : read_as (codes "compute 1099511627777") ≡ Err BadNumber
too_many_ticks = refl

too_great_a_badge : read_as (codes "signal n 4294967296") ≡ Err BadNumber
too_great_a_badge = refl

extra_before_bad : read_as (codes "signal n 0 x") ≡ Err ExtraPart
extra_before_bad = refl

unknown_before_missing : read_as (codes "sleep") ≡ Err UnknownWord
unknown_before_missing = refl

no_parts : read_as [] ≡ Err UnknownWord
no_parts = refl

-- the items of version 3
badges_of_a_handler : read_new_as (codes "on 3") ≡ Ok (On 3)
badges_of_a_handler = refl

a_call : read_new_as (codes " call disk 4294967295") ≡ Ok (Call (codes "disk") 4294967295)
a_call = refl

a_call_without_a_badge : read_new_as (codes "call disk") ≡ Err MissingPart
a_call_without_a_badge = refl

no_badges : read_new_as (codes "on 0") ≡ Err BadNumber
no_badges = refl

a_spin_of_some_ticks : read_new_as (codes "spin 5") ≡ Err ExtraPart
a_spin_of_some_ticks = refl

without_end : read_new_as (codes "spin") ≡ Ok Spin
without_end = refl

the_older_words_too : read_new_as (codes "wait n") ≡ Ok (Wait (codes "n"))
the_older_words_too = refl

unknown_to_the_older_ones : read_as (codes "spin") ≡ Err UnknownWord
unknown_to_the_older_ones = refl

-- a compute of 3 and a signal; a call costs 2
abbrev script : List Item
script = item.Compute 3 ∷ item.Signal 0 1 ∷ []

-- a place of a thread of priority 9
abbrev at : ℕ → ℕ → ℕ → ℕ → Place
at round item left word = record { round = round; item = item; left = left; word = word; priority = 9 }

begins : first_place 2 9 script ≡ at 1 0 3 0
begins = refl

then_the_signal : place_after 2 script (move_after script 2 (at 1 0 0 0)) (at 1 0 0 0) ≡ at 1 1 2 0
then_the_signal = refl

then_the_second_round : place_after 2 script (move_after script 2 (at 1 1 0 0)) (at 1 1 0 0) ≡ at 2 0 3 0
then_the_second_round = refl

then_done : move_after script 2 (at 2 1 0 0) ≡ AllDone
then_done = refl

no_last_round : move_after script 0 (at 2 1 0 0) ≡ RoundEnds
no_last_round = refl

the_last_round_number : place_after 2 script RoundEnds (at 18446744073709551615 1 0 0) ≡ at 18446744073709551615 0 3 0
the_last_round_number = refl

-- a wait, a compute of 2 for badge 1, and a compute of 3 for badge 2
abbrev handlers : List Item
handlers = item.Wait 0 ∷ item.On 1 ∷ item.Compute 2 ∷ item.On 2 ∷ item.Compute 3 ∷ []

to_the_first : next_item handlers 1 0 ≡ Some 2
to_the_first = refl

to_the_second : next_item handlers 2 0 ≡ Some 4
to_the_second = refl

from_one_to_the_other : next_item handlers 3 2 ≡ Some 4
from_one_to_the_other = refl

past_the_other : next_item handlers 1 2 ≡ None
past_the_other = refl

nobodys_badge : next_item handlers (heard handlers 4) 0 ≡ Some 0
nobodys_badge = refl

-- the word of a round is of badges that a handler takes
only_badges_that_are_taken : heard handlers 6 ≡ 2
only_badges_that_are_taken = refl

into_the_second_by_its_word : place_after 1 handlers (move_after handlers 0 (at 1 0 0 2)) (at 1 0 0 2) ≡ at 1 4 3 2
into_the_second_by_its_word = refl

-- no word has begun the next round yet
a_round_of_the_first_ends : place_after 1 handlers (move_after handlers 0 (at 1 2 0 1)) (at 1 2 0 1) ≡ at 2 0 1 0
a_round_of_the_first_ends = refl

back_to_the_wait : place_after 1 handlers (move_after handlers 1 (at 1 0 0 0)) (at 1 0 0 0) ≡ at 1 0 1 0
back_to_the_wait = refl

-- a handler that is empty takes badge 1, so there is nothing to do for it
abbrev nothing_to_do : List Item
nothing_to_do = item.Wait 0 ∷ item.On 1 ∷ item.On 2 ∷ item.Compute 3 ∷ []

back_from_an_empty_handler : place_after 1 nothing_to_do (move_after nothing_to_do 1 (at 1 0 0 1)) (at 1 0 0 1) ≡ at 1 0 1 0
back_from_an_empty_handler = refl

past_an_empty_handler : place_after 1 nothing_to_do (move_after nothing_to_do 1 (at 1 0 0 3)) (at 1 0 0 3) ≡ at 1 3 3 3
past_an_empty_handler = refl

-- a wait alone ends no round either
a_wait_alone : move_after (item.Wait 0 ∷ []) 1 (at 1 0 0 0) ≡ Next
a_wait_alone = refl

-- a server of priority 40
enters : goes_to 1 (item.Enter 1 40 ∷ item.Compute 4 ∷ item.Leave 1 9 ∷ []) 1 1 (at 1 0 0 0)
    ≡ record { round = 1; item = 1; left = 4; word = 0; priority = 40 }
enters = refl

leaves : goes_to 1 (item.Enter 1 40 ∷ item.Compute 4 ∷ item.Leave 1 9 ∷ item.Yield ∷ []) 1 3 (record { round = 1; item = 2; left = 0; word = 0; priority = 40 })
    ≡ record { round = 1; item = 3; left = 1; word = 0; priority = 9 }
leaves = refl

spins : left_after 1000 (cost 1 item.Spin) ≡ cost 1 item.Spin
spins = refl
