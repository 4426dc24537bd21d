-- The contexts of worked systems at some moments, with the ticks in use.
use Rattle.std.specs.Prelude.{◌≡◌, ℕ, ◌+◌, List, [], ◌∷◌, Some, None, refl, flat_map, sum}
use Rattle.std.specs.List.{range_with_len}
use Rattle.mcs_refills.specs.declared.refill.Refill.{Refill}
use Rattle.mcs_control.specs.declared.view.ContextView.{ContextView}
use Rattle.mcs_control.specs.Context.Budget.{Dates}
use Rattle.mcs_system.specs.System.{System}
use Rattle.mcs_core.specs.Clock.{world, core_shown}
use Rattle.mcs_core.specs.Views.{views_of}
use Rattle.mcs_laws.specs.Changes.{Change, changed_by, taken_by}
use Rattle.mcs_laws.specs.Changes.Change.{Charged, Woken, Ordered}
use Rattle.mcs_laws.specs.Histories.{charges_at, wakes_at, context_before, opening_context, orders_within}
use Rattle.mcs_laws.specs.Slices.{budget, charges_from, charges_in, HasLeft, IsOneSlice}
use Rattle.mcs_script.specs.declared.item.Item.TheVariants.{Compute}
use Rattle.mcs_worked.specs.Parts.{context, thread, order, one_core}
use Rattle.mcs_worked.proofs.Schedules as worked

-- the views of the contexts of core 0 after all turns of moment t
abbrev shown_after : System → ℕ → List ContextView
shown_after system t = views_of system (core_shown system (world system (t + 1)) 0)

abbrev refill : ℕ → ℕ → Refill
refill begins amount = record { begins = begins; amount = amount }

abbrev sporadic : ℕ → List Refill → ℕ → ContextView
sporadic context refills using = record { context = context; refills = refills; left = None; using = using }

abbrev slice : ℕ → ℕ → ℕ → ContextView
slice context left using = record { context = context; refills = []; left = Some left; using = using }

-- while the thread runs its ticks are in use and not yet charged ..
in_use : shown_after worked.depletes_and_refills_system 1 ≡ sporadic 0 (refill 0 2 ∷ []) 1 ∷ []
in_use = refl

-- .. and its stop charges them
charged : shown_after worked.depletes_and_refills_system 2 ≡ sporadic 0 (refill 5 2 ∷ []) 0 ∷ []
charged = refl

-- no tick is in use of a thread that is chosen at the moment
chosen : shown_after worked.depletes_and_refills_system 5 ≡ sporadic 0 (refill 5 2 ∷ []) 0 ∷ []
chosen = refl

-- a head that is smaller than the minimum joins the next refill
joined_head : shown_after worked.small_head_joins_system 10 ≡ sporadic 0 (refill 97 10 ∷ []) 0 ∷ sporadic 1 (refill 54 4 ∷ []) 0 ∷ []
joined_head = refl

-- the second of two orders gives what the first left unmoved, and the missing ticks at the new period's end
ordered_twice : shown_after worked.two_orders_at_one_moment_system 4 ≡ sporadic 0 (refill 4 6 ∷ refill 42 2 ∷ []) 0 ∷ []
ordered_twice = refl

-- slices show what is left
slices : shown_after worked.round_robin_takes_turns_system 3 ≡ slice 0 2 1 ∷ slice 1 3 0 ∷ sporadic 2 (refill 2 1 ∷ refill 11 1 ∷ []) 0 ∷ []
slices = refl

-- a context that is only charged: its charges as the rows tell them, the dates that they take, and what they leave
charges : flat_map (charges_at worked.depletes_and_refills_system 0) (range_with_len 0 12) ≡ 2 ∷ 2 ∷ 1 ∷ []
charges = refl

abbrev three_charges : List Change
three_charges = Charged 2 ∷ Charged 2 ∷ Charged 1 ∷ []

dates_of_charges : taken_by 1 three_charges (opening_context worked.depletes_and_refills_system 0) ≡ 0 ∷ 1 ∷ 5 ∷ 6 ∷ 10 ∷ []
dates_of_charges = refl

left_by_charges : changed_by 1 three_charges (opening_context worked.depletes_and_refills_system 0) ≡ context_before worked.depletes_and_refills_system 0 12
left_by_charges = refl

-- one that is charged and then ordered
abbrev mixed_changes : List Change
mixed_changes = Charged 3 ∷ Ordered (order 4 1 2 8 0) ∷ []

left_by_an_order :
    changed_by 1 mixed_changes (opening_context worked.arrival_before_order_before_release_system 1) ≡ context_before worked.arrival_before_order_before_release_system 1 5
left_by_an_order = refl

-- a round robin context of 3: it is charged 1 at moment 1, when its thread is preempted, and 2 at
-- moment 4, when the slice is used up. It is charged its budget from the full slice at first to the
-- next one, before moment 5
slice_is_charged : charges_from worked.round_robin_takes_turns_system 0 0 5 ≡ 1 ∷ 2 ∷ []
slice_is_charged = refl

told_by_the_schedule : charges_in worked.round_robin_takes_turns_system 0 0 5 worked.round_robin_takes_turns_rows ≡ 1 ∷ 2 ∷ []
told_by_the_schedule = refl

one_slice : IsOneSlice worked.round_robin_takes_turns_system 0 0 5
one_slice = record { full = refl; unordered = refl; next = refl; once = refl }

-- before moment 4 one tick of it is charged, and two are left
slice_in_part : HasLeft worked.round_robin_takes_turns_system 0 4 2
slice_in_part = refl

-- a round robin context of 3 whose thread always runs. At moment 7, when it has run a tick of its third slice, an order leaves it 1 of 1; a
-- second order comes at moment 1000000. Neither takes anything from the whole slices that lie elsewhere
abbrev ordered_system : System
ordered_system =
    one_core (context [] 0 3 3 0 ∷ []) [] (thread [] 0 5 0 1 0 (Compute 40 ∷ []) ∷ []) (order 7 0 1 1 0 ∷ order 1000000 0 5 5 0 ∷ [])

charges_about_an_order : charges_from ordered_system 0 0 12 ≡ 3 ∷ 3 ∷ 1 ∷ 1 ∷ 1 ∷ 1 ∷ 1 ∷ []
charges_about_an_order = refl

-- two whole slices of 3 before the order ..
first_slice_before : IsOneSlice ordered_system 0 0 4
first_slice_before = record { full = refl; unordered = refl; next = refl; once = refl }

second_slice_before : IsOneSlice ordered_system 0 4 3
second_slice_before = record { full = refl; unordered = refl; next = refl; once = refl }

spent_before : sum (charges_from ordered_system 0 4 3) ≡ budget ordered_system 0 4
spent_before = refl

budget_before : budget ordered_system 0 4 ≡ 3
budget_before = refl

-- .. and whole slices of 1 after it
slice_after : IsOneSlice ordered_system 0 8 1
slice_after = record { full = refl; unordered = refl; next = refl; once = refl }

spent_after : sum (charges_from ordered_system 0 8 1) ≡ budget ordered_system 0 8
spent_after = refl

budget_after : budget ordered_system 0 8 ≡ 1
budget_after = refl

-- an order at the very moment at which the slice is used up comes after the charge, and takes nothing from it either
abbrev ordered_at_the_end_system : System
ordered_at_the_end_system = one_core (context [] 0 3 3 0 ∷ []) [] (thread [] 0 5 0 1 0 (Compute 40 ∷ []) ∷ []) (order 3 0 2 2 0 ∷ [])

slice_before_an_order : IsOneSlice ordered_at_the_end_system 0 0 4
slice_before_an_order = record { full = refl; unordered = refl; next = refl; once = refl }

spent_before_an_order : charges_from ordered_at_the_end_system 0 0 4 ≡ 3 ∷ []
spent_before_an_order = refl

left_by_the_order : HasLeft ordered_at_the_end_system 0 4 2
left_by_the_order = refl

-- if the order comes in between, the charges from a full slice to a full one sum to neither budget
order_between : orders_within ordered_system 0 7 2 ≡ order 7 0 1 1 0 ∷ []
order_between = refl

full_before_the_order : HasLeft ordered_system 0 7 3
full_before_the_order = refl

full_after_the_order : HasLeft ordered_system 0 9 1
full_after_the_order = refl

spent_about_the_order : charges_from ordered_system 0 7 2 ≡ 1 ∷ 1 ∷ []
spent_about_the_order = refl

-- one whose thread waits after a tick, and is woken at moment 4
told_of_the_wake : flat_map (wakes_at worked.arrival_before_order_before_release_system 0) (range_with_len 0 5) ≡ 4 ∷ []
told_of_the_wake = refl

-- of the dates 1, 2 and 20 that the charge left the first two become 4 and 5
left_by_a_wake :
    changed_by 1 (Charged 1 ∷ Woken 4 ∷ []) (opening_context worked.arrival_before_order_before_release_system 0)
    ≡ context_before worked.arrival_before_order_before_release_system 0 5
left_by_a_wake = refl

dates_after_the_wake : (context_before worked.arrival_before_order_before_release_system 0 5).budget ≡ Dates (4 ∷ 5 ∷ 20 ∷ [])
dates_after_the_wake = refl
