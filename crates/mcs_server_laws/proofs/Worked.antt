-- Values worked by hand from the rules, at the edges at which a slightly different law would fail.
use Rattle.std.specs.Prelude.{◌≡◌, ℕ, Bool, true, false, List, [], ◌∷◌, ◌++◌, map, Option, Some, None, option_map, refl, zero, suc, ◌<◌}
use Rattle.std.specs.List.{slice_get}
use Rattle.std.proofs.Common.{arith}
use Rattle.mcs_ticks.specs.declared.row.What.TheVariants as row
use Rattle.mcs_ticks.specs.declared.row.Why.TheVariants as why
use Rattle.mcs_control.specs.declared.config.Mode.TheVariants.{Sporadic}
use Rattle.mcs_script.specs.declared.item.Item.{Item}
use Rattle.mcs_script.specs.declared.item.Item.TheVariants.{Compute, Wait, On, Enter, Leave}
use Rattle.mcs_system.specs.declared.part.Beat.{Beat}
use Rattle.mcs_system.specs.declared.part.ContextPart.{ContextPart}
use Rattle.mcs_system.specs.declared.part.NotePart.{NotePart}
use Rattle.mcs_system.specs.declared.part.SourcePart.{SourcePart}
use Rattle.mcs_system.specs.declared.part.ThreadPart.{ThreadPart}
use Rattle.mcs_system.specs.System.{System, thread_part}
use Rattle.mcs_core.specs.declared.standing.Chosen.{Chosen}
use Rattle.mcs_core.specs.Places.{times_queued}
use Rattle.mcs_core.specs.Core.{thread_of, note_of}
use Rattle.mcs_core.specs.Clock.{schedule, turn_of, world, core_at}
use Rattle.mcs_load.specs.Script.{call_steps}
use Rattle.mcs_server_laws.specs.Interrupts.{dates_to, moments_told}
use Rattle.mcs_server_laws.specs.Nesting.{without_last, inside, nests}
use Rattle.mcs_server_laws.specs.Ceiling.{priority_of, AreCeilings}
use Rattle.mcs_server_laws.specs.Exclusion.{is_inside}

abbrev context : ℕ → ℕ → ContextPart
context budget period = record { name = []; core = 0; config = record { budget = budget; period = period; extra = 0 }; mode = Sporadic }

-- a thread that begins at its start and goes through its script once, or without end
abbrev thread : ℕ → ℕ → ℕ → ℕ → List Item → ThreadPart
thread context priority start rounds script =
    record { name = []; context = context; priority = priority; start = start; rounds = rounds; deadline = 0; script = script }

abbrev one_core : ℕ → List ContextPart → List NotePart → List ThreadPart → List SourcePart → List Beat → System
one_core servers contexts notes threads sources beats =
    record { cores = 1; delay = 1; call = 1; min_budget = 1; contexts = contexts; notes = notes; threads = threads; orders = []; links = []; servers = servers; sources = sources; beats = beats; chains = [] }

abbrev note : ℕ → NotePart
note word = record { name = []; core = 0; word = word }

abbrev source : ℕ → ℕ → SourcePart
source note badge = record { name = []; note = note; badge = badge }

-- A thread that takes 5 ticks for each word. The first source interrupts at 1, 4 and 11, which are three dates of the places 1 and 4 of a period of
-- 10. The second interrupts at 4 too, and once.
abbrev interrupted : System
interrupted =
    one_core 0 (context 9 20 ∷ []) (note 0 ∷ [])
    (thread 0 5 0 0 (Wait 0 ∷ Compute 5 ∷ []) ∷ [])
    (source 0 1 ∷ source 0 2 ∷ [])
    (
    record { source = 0; first = 1; period = 10; count = 2 } ∷ record { source = 0; first = 4; period = 10; count = 1 }
    ∷ record { source = 1; first = 4; period = 1; count = 1 } ∷ []
    )

three_dates : dates_to interrupted 0 30 ≡ 1 ∷ 4 ∷ 11 ∷ []
three_dates = refl

one_date : dates_to interrupted 1 30 ≡ 4 ∷ []
one_date = refl

-- the date of the horizon is among them
up_to_the_horizon : (dates_to interrupted 0 10 ≡ 1 ∷ 4 ∷ []) × (dates_to interrupted 0 11 ≡ 1 ∷ 4 ∷ 11 ∷ [])
up_to_the_horizon = (refl, refl)

-- the schedule has a row for each, also if the thread does not wait
told_of_each : (moments_told interrupted 0 (schedule interrupted 12) ≡ 1 ∷ 4 ∷ 11 ∷ []) × (moments_told interrupted 1 (schedule interrupted 12) ≡ 4 ∷ [])
told_of_each = (refl, refl)

-- who waits is woken, and else the word holds the badges of both
woken_at_1 : (turn_of interrupted 0 1).rows ≡ row.Stop 0 why.Wait 1 None ∷ row.Interrupt 0 0 1 ∷ row.Wake 0 0 1 None ∷ row.Run 0 ∷ []
woken_at_1 = refl

held_at_4 : (turn_of interrupted 0 4).rows ≡ row.Interrupt 0 0 1 ∷ row.Hold 0 1 ∷ row.Interrupt 1 0 2 ∷ row.Hold 0 3 ∷ []
held_at_4 = refl

-- a source without a count has no last date
abbrev endless : System
endless =
    one_core 0 (context 9 20 ∷ []) (note 0 ∷ []) (thread 0 5 0 0 (Wait 0 ∷ Compute 5 ∷ []) ∷ []) (source 0 1 ∷ []) (record { source = 0; first = 0; period = 3; count = 0 } ∷ [])

no_last_date : dates_to endless 0 12 ≡ 0 ∷ 3 ∷ 6 ∷ 9 ∷ 12 ∷ []
no_last_date = refl

-- A script that calls server 1 within server 0, waits there, and calls server 1 once more in its handler.
abbrev calls : List Item
calls = Wait 5 ∷ On 1 ∷ Enter 0 30 ∷ Enter 1 40 ∷ Compute 2 ∷ Leave 1 30 ∷ Wait 6 ∷ Leave 0 10 ∷ On 2 ∷ Enter 1 40 ∷ Leave 1 10 ∷ []

these_nest : nests calls ≡ true
these_nest = refl

-- it is in a server from the item after the entering up to the leaving, and the inner one comes
-- first
in_them : map (λ item. inside item calls) (2 ∷ 3 ∷ 4 ∷ 5 ∷ 6 ∷ 7 ∷ 8 ∷ 10 ∷ [])
    ≡ [] ∷ (0 ∷ []) ∷ (1 ∷ 0 ∷ []) ∷ (1 ∷ 0 ∷ []) ∷ (0 ∷ []) ∷ (0 ∷ []) ∷ [] ∷ (1 ∷ []) ∷ []
in_them = refl

-- these do not: the outer server is left first, a server is entered twice, a handler begins in a server, one is never left, and one never entered
the_outer_first : nests (Enter 0 30 ∷ Enter 1 40 ∷ Leave 0 10 ∷ Leave 1 10 ∷ []) ≡ false
the_outer_first = refl

twice : nests (Enter 0 30 ∷ Enter 0 30 ∷ Leave 0 30 ∷ Leave 0 10 ∷ []) ≡ false
twice = refl

a_handler_in_a_server : nests (Wait 5 ∷ Enter 0 30 ∷ On 1 ∷ Leave 0 10 ∷ []) ≡ false
a_handler_in_a_server = refl

never_left : nests (Enter 0 30 ∷ Compute 1 ∷ []) ≡ false
never_left = refl

never_entered : nests (Compute 1 ∷ Leave 0 10 ∷ []) ≡ false
never_entered = refl

-- Server 0 of priority 40: a thread of priority 10 and budget 3 in 10 takes it from 1 to 21, and one of priority 30 waits for it from 5 on.
abbrev served : System
served =
    one_core 1 (context 3 10 ∷ context 20 100 ∷ []) (note 1 ∷ [])
    (thread 0 10 0 1 (Enter 0 40 ∷ Compute 5 ∷ Leave 0 10 ∷ []) ∷ thread 1 30 4 1 (Enter 0 40 ∷ Compute 5 ∷ Leave 0 30 ∷ []) ∷ [])
    [] []

-- the word of the server before a moment, and whether each of the two is in it
abbrev found : System → ℕ → ℕ × Bool × Bool
found system t =
    let core = core_at system (world system t) 0 in
    ((note_of core 0).word, is_inside system 0 0 (thread_of core 0), is_inside system 0 1 (thread_of core 1))

free_at_first : found served 1 ≡ (1, false, false)
free_at_first = refl

taken_at_1 : found served 2 ≡ (0, true, false)
taken_at_1 = refl

-- its budget is spent, another thread waits: it keeps the server
kept_while_throttled : found served 6 ≡ (0, true, false)
kept_while_throttled = refl

-- who waits has it as soon as it is left, and the thread that is done, at the item that left it, is in it no more
handed_on_at_21 : found served 22 ≡ (0, false, true)
handed_on_at_21 = refl

-- If a script leaves a server that it did not enter, two threads are in it.
abbrev unpaired : System
unpaired =
    one_core 1 (context 20 100 ∷ context 20 100 ∷ []) (note 1 ∷ [])
    (thread 0 10 0 1 (Enter 0 40 ∷ Compute 9 ∷ Leave 0 10 ∷ []) ∷ thread 1 50 2 1 (Leave 0 50 ∷ Enter 0 60 ∷ Compute 9 ∷ Leave 0 50 ∷ []) ∷ [])
    [] []

two_are_in_it : found unpaired 5 ≡ (0, true, true)
two_are_in_it = refl

-- A call of server 1 with badge 1, whose handler of that badge calls server 0. The handler of the badge 2 is passed over.
abbrev inner_call : List Item
inner_call = call_steps 0 (record { name = []; core = 0; priority = 50; steps = Compute 1 ∷ [] }) 1 40

abbrev outer_call : List Item
outer_call = call_steps 1 (record { name = []; core = 0; priority = 40; steps = On 1 ∷ inner_call ++ On 2 ∷ Compute 9 ∷ [] }) 1 10

unfolded : outer_call ≡ Enter 1 40 ∷ Enter 0 50 ∷ Compute 1 ∷ Leave 0 40 ∷ Leave 1 10 ∷ []
unfolded = refl

unfolded_nests : nests outer_call ≡ true
unfolded_nests = refl

-- Thread 0 of priority 10 calls server 0. A thread of priority 30, which calls it too, and one of priority 50 start at 2.
abbrev above_it : ℕ → System
above_it ceiling =
    one_core 1 (context 20 100 ∷ context 20 100 ∷ context 20 100 ∷ []) (note 1 ∷ [])
    (
    thread 0 10 0 1 (Enter 0 ceiling ∷ Compute 9 ∷ Leave 0 10 ∷ []) ∷ thread 1 30 2 1 (Enter 0 ceiling ∷ Compute 1 ∷ Leave 0 30 ∷ [])
    ∷ thread 2 50 2 1 (Compute 3 ∷ []) ∷ []
    )
    [] []

-- who runs before a moment, with its priority, and whether thread 0 is ready
abbrev runs_with : System → ℕ → Option (ℕ × ℕ) × ℕ
runs_with system t =
    let core = core_at system (world system t) 0 in
    (option_map (λ (chosen : Chosen). (chosen.thread, (thread_of core chosen.thread).place.priority)) core.running, times_queued 0 core.ready)

-- at the server's priority of 40 only the third thread runs while thread 0 is ready in it, and then
-- thread 0 continues
only_above_the_ceiling : (runs_with (above_it 40) 4 ≡ (Some (2, 50), 1)) × (runs_with (above_it 40) 6 ≡ (Some (0, 40), 0))
only_above_the_ceiling = (refl, refl)

-- at a server's priority of 20 the thread of priority 30 runs before it, and calls the server of a ready thread
below_its_callers : (runs_with (above_it 20) 6 ≡ (Some (1, 30), 1)) × ((turn_of (above_it 20) 0 6).rows ≡ row.Stop 1 why.Call 1 None ∷ row.Run 0 ∷ [])
below_its_callers = (refl, refl)

-- the premise of the law holds of it: each entering is at 10 or 30, and inside it is 40
above_is : (x item server priority : ℕ) → slice_get (thread_part (above_it 40) x).script item ≡ Some (Enter server priority)
    → priority_of (above_it 40) (λ n. 40) x (inside item (thread_part (above_it 40) x).script) < 40
above_is zero zero server priority e = omega arith
above_is zero (suc zero) server priority e = absurd (cc)
above_is zero (suc (suc zero)) server priority e = absurd (cc)
above_is zero (suc (suc (suc item))) server priority e = absurd (cc)
above_is (suc zero) zero server priority e = omega arith
above_is (suc zero) (suc zero) server priority e = absurd (cc)
above_is (suc zero) (suc (suc zero)) server priority e = absurd (cc)
above_is (suc zero) (suc (suc (suc item))) server priority e = absurd (cc)
above_is (suc (suc zero)) zero server priority e = absurd (cc)
above_is (suc (suc zero)) (suc item) server priority e = absurd (cc)
above_is (suc (suc (suc x))) item server priority e = absurd (cc)

given_is : (x item server priority : ℕ) → slice_get (thread_part (above_it 40) x).script item ≡ Some (Enter server priority) → priority ≡ 40
given_is zero zero server priority e = cc
given_is zero (suc zero) server priority e = absurd (cc)
given_is zero (suc (suc zero)) server priority e = absurd (cc)
given_is zero (suc (suc (suc item))) server priority e = absurd (cc)
given_is (suc zero) zero server priority e = cc
given_is (suc zero) (suc zero) server priority e = absurd (cc)
given_is (suc zero) (suc (suc zero)) server priority e = absurd (cc)
given_is (suc zero) (suc (suc (suc item))) server priority e = absurd (cc)
given_is (suc (suc zero)) zero server priority e = absurd (cc)
given_is (suc (suc zero)) (suc item) server priority e = absurd (cc)
given_is (suc (suc (suc x))) item server priority e = absurd (cc)

back_is : (x item server priority : ℕ) → slice_get (thread_part (above_it 40) x).script item ≡ Some (Leave server priority)
    → priority ≡ priority_of (above_it 40) (λ n. 40) x (without_last (inside item (thread_part (above_it 40) x).script))
back_is zero zero server priority e = absurd (cc)
back_is zero (suc zero) server priority e = absurd (cc)
back_is zero (suc (suc zero)) server priority e = cc
back_is zero (suc (suc (suc item))) server priority e = absurd (cc)
back_is (suc zero) zero server priority e = absurd (cc)
back_is (suc zero) (suc zero) server priority e = absurd (cc)
back_is (suc zero) (suc (suc zero)) server priority e = cc
back_is (suc zero) (suc (suc (suc item))) server priority e = absurd (cc)
back_is (suc (suc zero)) zero server priority e = absurd (cc)
back_is (suc (suc zero)) (suc item) server priority e = absurd (cc)
back_is (suc (suc (suc x))) item server priority e = absurd (cc)

ceilings_hold : AreCeilings (above_it 40) (λ n. 40)
ceilings_hold = record { above = above_is; priorities = record { given = given_is; back = back_is } }
