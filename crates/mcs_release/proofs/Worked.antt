-- Release queues at worked sequences: which thread leaves, and which date is next. Places at worked
-- sizes: how far below the root they are, and how many threads fit.
use Rattle.std.specs.Prelude.{◌≡◌, ℕ, ◌+◌, ◌/◌, List, [], ◌∷◌, ◌++◌, Option, Some, None, slice_set, refl}
use Rattle.std.proofs.Common.{zero, suc, arith}
use Rattle.mcs_release.specs.declared.dated.Dated.{Dated}
use Rattle.mcs_release.specs.Release.{dated, first_due, next_date, thread_of, without_first_due}
use Rattle.mcs_release.specs.stored.Places.{entered, most, AreEmptyFrom, AreEnoughFor}

data Step : Type 0 where
  enter : ℕ → ℕ → Step
  next : Step
  take : ℕ → Step

-- what a queue answers to each step that asks: a date, or a thread
abbrev answers : List Step → List Dated → List (Option ℕ)
answers [] queue = []
answers (enter thread date ∷ steps) queue = answers steps (queue ++ dated thread date ∷ [])
answers (next ∷ steps) queue = next_date queue ∷ answers steps queue
answers (take t ∷ steps) queue = thread_of (first_due t queue) ∷ answers steps (without_first_due t queue)

the_least_date_first :
    answers (enter 0 5 ∷ enter 1 3 ∷ enter 2 4 ∷ next ∷ take 10 ∷ next ∷ take 10 ∷ take 10 ∷ take 10 ∷ next ∷ []) []
    ≡ Some 3 ∷ Some 1 ∷ Some 4 ∷ Some 2 ∷ Some 0 ∷ None ∷ None ∷ []
the_least_date_first = refl

equal_dates_in_order_of_entering :
    answers (enter 2 5 ∷ enter 0 5 ∷ enter 1 5 ∷ take 5 ∷ take 5 ∷ take 5 ∷ []) []
    ≡ Some 2 ∷ Some 0 ∷ Some 1 ∷ []
equal_dates_in_order_of_entering = refl

none_leaves_before_its_date :
    answers (enter 0 5 ∷ take 4 ∷ next ∷ take 5 ∷ []) []
    ≡ None ∷ Some 5 ∷ Some 0 ∷ []
none_leaves_before_its_date = refl

one_that_entered_first_waits_for_its_date :
    answers (enter 0 9 ∷ enter 1 2 ∷ take 5 ∷ take 5 ∷ take 9 ∷ []) []
    ≡ Some 1 ∷ None ∷ Some 0 ∷ []
one_that_entered_first_waits_for_its_date = refl

a_thread_enters_again :
    answers (enter 0 5 ∷ enter 1 5 ∷ take 5 ∷ enter 0 5 ∷ take 5 ∷ take 5 ∷ take 5 ∷ []) []
    ≡ Some 0 ∷ Some 1 ∷ Some 0 ∷ None ∷ []
a_thread_enters_again = refl

six_threads :
    answers (enter 5 7 ∷ enter 4 3 ∷ enter 3 7 ∷ enter 2 1 ∷ enter 1 3 ∷ enter 0 7 ∷ next ∷ take 0 ∷ take 3 ∷ take 3 ∷ take 3 ∷ take 3 ∷ next ∷ enter 2 7 ∷ take 7 ∷ take 7 ∷ take 7 ∷ take 7 ∷ take 7 ∷ []) []
    ≡ Some 1 ∷ None ∷ Some 2 ∷ Some 4 ∷ Some 1 ∷ None ∷ Some 7 ∷ Some 5 ∷ Some 3 ∷ Some 0 ∷ Some 2 ∷ None ∷ []
six_threads = refl

the_order_outlives_many_entrances :
    answers (enter 0 50 ∷ enter 1 50 ∷ enter 2 1 ∷ take 1 ∷ enter 2 2 ∷ take 2 ∷ enter 2 3 ∷ take 3 ∷ enter 2 4 ∷ take 4 ∷ enter 2 5 ∷ take 5 ∷ enter 2 6 ∷ take 6 ∷ enter 2 7 ∷ take 7 ∷ enter 2 8 ∷ take 8 ∷ enter 2 9 ∷ take 9 ∷ enter 2 10 ∷ take 10 ∷ enter 3 50 ∷ enter 4 49 ∷ next ∷ take 48 ∷ take 50 ∷ take 50 ∷ take 50 ∷ take 50 ∷ take 50 ∷ next ∷ []) []
    ≡ Some 2 ∷ Some 2 ∷ Some 2 ∷ Some 2 ∷ Some 2 ∷ Some 2 ∷ Some 2 ∷ Some 2 ∷ Some 2 ∷ Some 2 ∷ Some 49 ∷ None ∷ Some 4 ∷ Some 0 ∷ Some 1 ∷ Some 3 ∷ None ∷ None ∷ []
the_order_outlives_many_entrances = refl

-- the node above a node
abbrev above : ℕ → ℕ
above node = node / 4 + 2

-- the 64 places of a tree with 21 inner nodes are nodes 24 to 87
the_first_of_64_places_is_three_nodes_below_the_root : above (above (above 24)) ≡ 3
the_first_of_64_places_is_three_nodes_below_the_root = refl

the_last_of_64_places_is_three_nodes_below_the_root : above (above (above 87)) ≡ 3
the_last_of_64_places_is_three_nodes_below_the_root = refl

-- the 67 places of a tree with 22 inner nodes are nodes 25 to 91
the_last_of_67_places_is_one_further_below : above (above (above 91)) ≡ 4
the_last_of_67_places_is_one_further_below = refl

without_spare_places_the_others_count : most 64 None ≡ 64
without_spare_places_the_others_count = refl

spare_places_count_if_there_are_some : most 2 (Some (None ∷ None ∷ None ∷ [])) ≡ 3
spare_places_count_if_there_are_some = refl

three_empty : AreEmptyFrom 0 (None ∷ None ∷ None ∷ [])
three_empty zero from = refl
three_empty (suc zero) from = refl
three_empty (suc (suc zero)) from = refl
three_empty (suc (suc (suc place))) from = refl

two_threads_fit_into_three_spare_places : AreEnoughFor 2 (None ∷ None ∷ []) (Some (None ∷ None ∷ None ∷ []))
two_threads_fit_into_three_spare_places = record { two = omega arith; wide = omega arith; unused = three_empty }

three_threads_do_not_fit : AreEnoughFor 3 (None ∷ None ∷ []) (Some (None ∷ None ∷ None ∷ [])) → ⊥
three_threads_do_not_fit enough = omega (arith, enough.wide)

taken_spare_places_are_refused : (x : Dated) → AreEnoughFor 1 (None ∷ None ∷ []) (Some (None ∷ Some x ∷ None ∷ [])) → ⊥
taken_spare_places_are_refused x enough = let taken = enough.unused 1 (omega arith) in cc

two_entries_keep_their_order_in_more_places : (x y : Dated) →
    entered (slice_set (slice_set (None ∷ None ∷ None ∷ []) 0 (Some x)) 1 (Some y)) ≡ entered (Some x ∷ Some y ∷ [])
two_entries_keep_their_order_in_more_places x y = refl
