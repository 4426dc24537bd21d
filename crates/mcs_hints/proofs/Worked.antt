-- Hints that were worked by hand.
use Rattle.std.specs.Prelude.{◌≡◌, ℕ, Bool, true, false, List, [], ◌∷◌, filter, refl}
use Rattle.mcs_script.specs.declared.item.Item.{Item}
use Rattle.mcs_script.specs.declared.item.Item.TheVariants.{Compute, Signal, Wait, On, Enter, Leave}
use Rattle.mcs_control.specs.declared.config.Mode.TheVariants as mode
use Rattle.mcs_system.specs.declared.part.ContextPart.{ContextPart}
use Rattle.mcs_system.specs.declared.part.ThreadPart.{ThreadPart}
use Rattle.mcs_system.specs.System.{System}
use Rattle.mcs_hints.specs.declared.hint.Hint.TheVariants.{NoThread, NoDeadline, Unsignalled, Unawaited, Unhandled, Unheard, Inverted, Unreached, Unbound, Unused, Overcommitted}
use Rattle.mcs_hints.specs.declared.hint.Hint.{Hint}
use Rattle.mcs_hints.specs.Hints.{hints_of as all_hints_of}
use Rattle.mcs_hints.specs.Cores.{granted}

abbrev context : ℕ → ℕ → ℕ → ContextPart
context core budget period =
    record { name = []; core = core; config = record { budget = budget; period = period; extra = 0 }; mode = mode.Sporadic }

abbrev thread : ℕ → List Item → ThreadPart
thread context script =
    record { name = []; context = context; priority = 5; start = 0; rounds = 0; deadline = 0; script = script }

-- two cores, and two notifications
abbrev system : List ContextPart → List ThreadPart → System
system contexts threads =
    record {
      cores = 2;
      delay = 1;
      call = 1;
      min_budget = 1;
      contexts = contexts;
      notes = record { name = []; core = 0; word = 0 } ∷ record { name = []; core = 0; word = 0 } ∷ [];
      threads = threads;
      orders = [];
      links = [];
      servers = 0;
      sources = [];
      beats = [];
      chains = [];
    }

-- the hints of notifications, and of contexts and cores that have threads or are overcommitted
abbrev is_of_use : Hint → Bool
is_of_use NoThread = false
is_of_use NoDeadline = false
is_of_use (Unused core) = false
is_of_use _ = true

abbrev hints_of : System → List Hint
hints_of system = filter is_of_use (all_hints_of system)

abbrev one : List ContextPart
one = context 0 1 10 ∷ []

-- who waits for what nobody signals waits for ever
unsignalled : hints_of (system one (thread 0 (Wait 1 ∷ Compute 1 ∷ []) ∷ [])) ≡ Unsignalled 1 ∷ []
unsignalled = refl

-- a thread of another core may be the one that signals it
signalled : hints_of (system (context 0 1 10 ∷ context 1 1 10 ∷ []) (thread 0 (Wait 1 ∷ Compute 1 ∷ []) ∷ thread 1 (Signal 1 1 ∷ []) ∷ [])) ≡ []
signalled = refl

-- and so may the thread itself
signalled_by_itself : hints_of (system one (thread 0 (Wait 1 ∷ Signal 1 1 ∷ []) ∷ [])) ≡ []
signalled_by_itself = refl

-- a signal of another notification does not count
other_is_signalled : hints_of (system one (thread 0 (Wait 1 ∷ Signal 0 1 ∷ []) ∷ [])) ≡ Unsignalled 1 ∷ []
other_is_signalled = refl

-- nobody waits, so that nobody signals is no hint
unused : hints_of (system one (thread 0 (Compute 1 ∷ []) ∷ [])) ≡ []
unused = refl

without_thread : hints_of (system (context 0 1 10 ∷ context 0 1 10 ∷ []) (thread 0 (Compute 1 ∷ []) ∷ [])) ≡ Unbound 1 ∷ []
without_thread = refl

-- 3/10 and 8/10 of core 1
abbrev three_and_eight : List ContextPart
three_and_eight = context 1 3 10 ∷ context 1 8 10 ∷ []

too_much : hints_of (system three_and_eight (thread 0 (Compute 1 ∷ []) ∷ thread 1 (Compute 1 ∷ []) ∷ [])) ≡ Overcommitted 1 1100000 ∷ []
too_much = refl

-- what a context without a thread is granted, nobody uses
unused_share : hints_of (system three_and_eight (thread 0 (Compute 1 ∷ []) ∷ [])) ≡ Unbound 1 ∷ []
unused_share = refl

-- all of a core's time may be granted
just_enough : hints_of (system (context 1 2 10 ∷ context 1 8 10 ∷ []) (thread 0 (Compute 1 ∷ []) ∷ thread 1 (Compute 1 ∷ []) ∷ [])) ≡ []
just_enough = refl

-- each core is summed separately
on_two_cores : hints_of (system (context 0 3 10 ∷ context 1 8 10 ∷ []) (thread 0 (Compute 1 ∷ []) ∷ thread 1 (Compute 1 ∷ []) ∷ [])) ≡ []
on_two_cores = refl

-- a round robin context's slice is no part of its core's time
beside_round_robin : hints_of (system (context 1 10 10 ∷ context 1 8 10 ∷ []) (thread 0 (Compute 1 ∷ []) ∷ thread 1 (Compute 1 ∷ []) ∷ [])) ≡ []
beside_round_robin = refl

-- each share is rounded down
rounded_down : granted (system (context 0 1 3 ∷ context 0 2 3 ∷ []) (thread 0 (Compute 1 ∷ []) ∷ thread 1 (Compute 1 ∷ []) ∷ [])) 0 ≡ 999999
rounded_down = refl

-- these kinds, in their order
all_kinds : hints_of (system (context 0 1 10 ∷ context 1 8 10 ∷ context 1 3 10 ∷ context 0 1 1 ∷ []) (thread 1 (Wait 0 ∷ Wait 1 ∷ Compute 1 ∷ []) ∷ thread 2 (Signal 1 1 ∷ []) ∷ []))
    ≡ Unsignalled 0 ∷ Unbound 0 ∷ Unbound 3 ∷ Overcommitted 1 1100000 ∷ []
all_kinds = refl

-- a source signals as a script does
abbrev with_source : System → System
with_source parts = record parts { sources = record { name = []; note = 1; badge = 1 } ∷ [] }

interrupted : hints_of (with_source (system one (thread 0 (Wait 1 ∷ On 1 ∷ Compute 1 ∷ []) ∷ []))) ≡ []
interrupted = refl

other_is_interrupted : hints_of (with_source (system one (thread 0 (Wait 0 ∷ Compute 1 ∷ []) ∷ []))) ≡ Unsignalled 0 ∷ Unawaited 0 1 ∷ []
other_is_interrupted = refl

-- no handler takes the source's badge 1
unhandled : hints_of (with_source (system one (thread 0 (Wait 1 ∷ On 2 ∷ Compute 1 ∷ []) ∷ []))) ≡ Unhandled 0 1 1 ∷ []
unhandled = refl

-- the handler of another thread takes it
handled_by_another : hints_of (with_source (system one (thread 0 (Wait 1 ∷ On 2 ∷ Compute 1 ∷ []) ∷ thread 0 (Wait 1 ∷ On 3 ∷ Compute 1 ∷ []) ∷ []))) ≡ []
handled_by_another = refl

-- each badge leaves an item to do that is before all handlers
taken_by_a_common_item : hints_of (with_source (system one (thread 0 (Wait 1 ∷ Compute 1 ∷ On 2 ∷ Compute 1 ∷ []) ∷ []))) ≡ []
taken_by_a_common_item = refl

-- a wait that is not the first item takes each badge, in a handler too
taken_by_a_later_wait : hints_of (with_source (system one (thread 0 (Wait 1 ∷ On 2 ∷ Wait 1 ∷ Compute 1 ∷ []) ∷ []))) ≡ []
taken_by_a_later_wait = refl

-- thread 1 signals notification 1, for which thread 0 waits
abbrev signalled_with : ℕ → List Item → List Hint
signalled_with badge waits = hints_of (system one (thread 0 waits ∷ thread 0 (Compute 1 ∷ Signal 1 badge ∷ []) ∷ []))

-- no handler takes badge 4, and one takes a part of badge 5
unheard : signalled_with 4 (Wait 1 ∷ On 1 ∷ Compute 1 ∷ []) ≡ Unheard 1 1 4 ∷ []
unheard = refl

heard_in_part : signalled_with 5 (Wait 1 ∷ On 1 ∷ Compute 1 ∷ []) ≡ []
heard_in_part = refl

-- a wait without handlers takes each badge
heard_without_handlers : signalled_with 4 (Wait 1 ∷ Compute 1 ∷ []) ≡ []
heard_without_handlers = refl

-- nobody waits, so that nobody takes the badge is no hint
signalled_to_nobody : signalled_with 4 (Compute 1 ∷ []) ≡ []
signalled_to_nobody = refl

-- the thread has priority 5
abbrev one_thread : List Item → List Hint
one_thread script = hints_of (system one (thread 0 script ∷ []))

called_from_below : one_thread (Enter 1 6 ∷ Compute 1 ∷ Leave 1 5 ∷ []) ≡ []
called_from_below = refl

called_from_its_priority : one_thread (Enter 1 5 ∷ Compute 1 ∷ Leave 1 5 ∷ []) ≡ Inverted 0 1 5 5 ∷ []
called_from_its_priority = refl

-- in the server the thread has the server's priority
called_by_a_server : one_thread (Enter 1 9 ∷ Enter 0 7 ∷ Leave 0 9 ∷ Leave 1 5 ∷ []) ≡ Inverted 0 0 7 9 ∷ []
called_by_a_server = refl

-- and after it its own again
called_later : one_thread (Enter 1 9 ∷ Leave 1 5 ∷ Enter 0 6 ∷ Leave 0 5 ∷ []) ≡ []
called_later = refl

-- only the first of such calls has a hint
called_twice : one_thread (Enter 1 9 ∷ Leave 1 5 ∷ Enter 0 4 ∷ Leave 0 5 ∷ Enter 1 3 ∷ Leave 1 5 ∷ []) ≡ Inverted 0 0 4 5 ∷ []
called_twice = refl

-- Three thirds and two parts, neither of them a millionth, exceed the whole time, though the shares
-- that are rounded down sum to less.
abbrev thirds : ℕ → ℕ → List ContextPart
thirds budget period = context 0 1 3 ∷ context 0 1 3 ∷ context 0 1 3 ∷ context 0 budget period ∷ []

abbrev on_each : List ThreadPart
on_each = thread 0 (Compute 1 ∷ []) ∷ thread 1 (Compute 1 ∷ []) ∷ thread 2 (Compute 1 ∷ []) ∷ thread 3 (Compute 1 ∷ []) ∷ []

above_by_less_than_a_millionth : hints_of (system (thirds 1 1000001) on_each) ≡ Overcommitted 0 1000001 ∷ []
above_by_less_than_a_millionth = refl

-- the whole time, with shares that are rounded down or not
three_thirds : hints_of (system (context 0 1 3 ∷ context 0 1 3 ∷ context 0 1 3 ∷ []) (thread 0 (Compute 1 ∷ []) ∷ thread 1 (Compute 1 ∷ []) ∷ thread 2 (Compute 1 ∷ []) ∷ [])) ≡ []
three_thirds = refl

-- 1/2 + 1/2, and 1/2 and one more than the half of the longest period
abbrev longest : ℕ
longest = 1099511627776

abbrev halves : ℕ → List ContextPart
halves budget = context 1 1 2 ∷ context 1 budget longest ∷ []

two_halves : hints_of (system (halves 549755813888) (thread 0 (Compute 1 ∷ []) ∷ thread 1 (Compute 1 ∷ []) ∷ [])) ≡ []
two_halves = refl

one_more_than_two_halves :
    hints_of (system (halves 549755813889) (thread 0 (Compute 1 ∷ []) ∷ thread 1 (Compute 1 ∷ []) ∷ [])) ≡ Overcommitted 1 1000001 ∷ []
one_more_than_two_halves = refl

-- a file without a thread is told so, and not that it has no deadline; no core has a thread then
no_thread : all_hints_of (system one []) ≡ NoThread ∷ Unbound 0 ∷ Unused 0 ∷ Unused 1 ∷ []
no_thread = refl

-- threads without a deadline on core 0
no_deadline : all_hints_of (system one (thread 0 (Compute 1 ∷ []) ∷ [])) ≡ NoDeadline ∷ Unused 1 ∷ []
no_deadline = refl

-- the deadline of one thread is enough, or that of one chain
abbrev in_time : ℕ → ThreadPart
in_time context = record (thread context (Compute 1 ∷ [])) { deadline = 7 }

of_a_thread : all_hints_of (system one (thread 0 (Compute 1 ∷ []) ∷ in_time 0 ∷ [])) ≡ Unused 1 ∷ []
of_a_thread = refl

abbrev with_chain : ℕ → ℕ → ℕ → System → System
with_chain thread badges deadline parts =
    record (with_source parts) { chains = record { name = []; source = 0; thread = thread; badges = badges; deadline = deadline } ∷ [] }

of_a_chain : all_hints_of (with_chain 0 0 9 (system one (thread 0 (Wait 1 ∷ Compute 1 ∷ []) ∷ []))) ≡ Unused 1 ∷ []
of_a_chain = refl

chain_without : all_hints_of (with_chain 0 0 0 (system one (thread 0 (Wait 1 ∷ Compute 1 ∷ []) ∷ []))) ≡ NoDeadline ∷ Unused 1 ∷ []
chain_without = refl

-- a thread on each core; and one on core 1 alone, whose second context makes no hint of the core
both_used : all_hints_of (system (context 0 1 10 ∷ context 1 1 10 ∷ []) (in_time 0 ∷ in_time 1 ∷ [])) ≡ []
both_used = refl

one_used : all_hints_of (system (context 1 1 10 ∷ context 1 1 10 ∷ []) (in_time 1 ∷ [])) ≡ Unbound 0 ∷ Unused 0 ∷ []
one_used = refl

-- an unused core stands before an overcommitted one, whatever their numbers
unused_first : all_hints_of (system (context 0 3 10 ∷ context 0 8 10 ∷ []) (in_time 0 ∷ in_time 1 ∷ [])) ≡ Unused 1 ∷ Overcommitted 0 1100000 ∷ []
unused_first = refl

-- A chain from a source, which posts badge 1 on notification 1, to the first thread, whose jobs for these badges answer.
abbrev is_of_chain : Hint → Bool
is_of_chain (Unreached chain source thread) = true
is_of_chain _ = false

abbrev chained : ℕ → List ThreadPart → List Hint
chained badges threads = filter is_of_chain (all_hints_of (with_chain 0 badges 9 (system one threads)))

-- it waits for the source itself
reached : chained 0 (thread 0 (Wait 1 ∷ Compute 1 ∷ []) ∷ []) ≡ []
reached = refl

reached_at_a_later_wait : chained 0 (thread 0 (Compute 1 ∷ Wait 1 ∷ Compute 1 ∷ []) ∷ []) ≡ []
reached_at_a_later_wait = refl

-- it waits elsewhere, or has nothing to do for the badge
waits_elsewhere : chained 0 (thread 0 (Wait 0 ∷ Compute 1 ∷ []) ∷ []) ≡ Unreached 0 0 0 ∷ []
waits_elsewhere = refl

has_no_handler : chained 0 (thread 0 (Wait 1 ∷ On 2 ∷ Compute 1 ∷ []) ∷ []) ≡ Unreached 0 0 0 ∷ []
has_no_handler = refl

has_an_empty_handler : chained 0 (thread 0 (Wait 1 ∷ On 1 ∷ On 2 ∷ Compute 1 ∷ []) ∷ []) ≡ Unreached 0 0 0 ∷ []
has_an_empty_handler = refl

-- it has two handlers, and the chain answers for badges
abbrev of_two : List Item
of_two = Wait 1 ∷ On 1 ∷ Compute 1 ∷ On 2 ∷ Compute 1 ∷ []

for_its_badge : chained 1 (thread 0 of_two ∷ []) ≡ []
for_its_badge = refl

for_another_badge : chained 2 (thread 0 of_two ∷ []) ≡ Unreached 0 0 0 ∷ []
for_another_badge = refl

-- what the whole job is given answers for each badge
of_the_whole_job : chained 2 (thread 0 (Wait 0 ∷ Wait 1 ∷ Compute 1 ∷ On 2 ∷ Compute 1 ∷ []) ∷ []) ≡ []
of_the_whole_job = refl

of_a_handler : chained 2 (thread 0 (Wait 0 ∷ On 1 ∷ Wait 1 ∷ Compute 1 ∷ On 2 ∷ Compute 1 ∷ []) ∷ []) ≡ Unreached 0 0 0 ∷ []
of_a_handler = refl

-- another thread has a script, and the first one waits for notification 0
abbrev by_signals : List Item → List Hint
by_signals script = chained 0 (thread 0 (Wait 0 ∷ On 4 ∷ Compute 1 ∷ []) ∷ thread 0 script ∷ [])

signalled_on : by_signals (Wait 1 ∷ Signal 0 4 ∷ []) ≡ []
signalled_on = refl

signalled_on_with_another_badge : by_signals (Wait 1 ∷ Signal 0 3 ∷ []) ≡ Unreached 0 0 0 ∷ []
signalled_on_with_another_badge = refl

signalled_elsewhere : by_signals (Wait 1 ∷ Signal 1 4 ∷ []) ≡ Unreached 0 0 0 ∷ []
signalled_elsewhere = refl

-- a signal before the wait carries what the job before had, which is dropped at its end
signalled_too_early : by_signals (Signal 0 4 ∷ Wait 1 ∷ Compute 1 ∷ []) ≡ Unreached 0 0 0 ∷ []
signalled_too_early = refl

signalled_by_its_handler : by_signals (Wait 1 ∷ On 1 ∷ Signal 0 4 ∷ On 2 ∷ Compute 1 ∷ []) ≡ []
signalled_by_its_handler = refl

signalled_by_another_handler : by_signals (Wait 1 ∷ On 1 ∷ Compute 1 ∷ On 2 ∷ Signal 0 4 ∷ []) ≡ Unreached 0 0 0 ∷ []
signalled_by_another_handler = refl

signalled_by_a_server : by_signals (Wait 1 ∷ On 1 ∷ Enter 0 9 ∷ Signal 0 4 ∷ Leave 0 5 ∷ []) ≡ []
signalled_by_a_server = refl

-- a later wait gives its handler, or the whole job
given_to_its_handler : by_signals (Wait 0 ∷ On 1 ∷ Wait 1 ∷ Signal 0 4 ∷ []) ≡ []
given_to_its_handler = refl

given_to_another_handler : by_signals (Wait 0 ∷ On 1 ∷ Wait 1 ∷ Compute 1 ∷ On 2 ∷ Signal 0 4 ∷ []) ≡ Unreached 0 0 0 ∷ []
given_to_another_handler = refl

given_to_a_handler_of_a_common_badge : by_signals (Wait 0 ∷ On 3 ∷ Wait 1 ∷ Compute 1 ∷ On 6 ∷ Signal 0 4 ∷ []) ≡ []
given_to_a_handler_of_a_common_badge = refl

given_to_the_whole_job : by_signals (Wait 0 ∷ Wait 1 ∷ Compute 1 ∷ On 2 ∷ Signal 0 4 ∷ []) ≡ []
given_to_the_whole_job = refl

-- a way against the order of the file, which takes a pass for each signal
against_the_order : chained 0 (thread 0 (Wait 0 ∷ On 8 ∷ Compute 1 ∷ []) ∷ thread 0 (Wait 0 ∷ On 4 ∷ Signal 0 8 ∷ [])
    ∷ thread 0 (Wait 0 ∷ On 2 ∷ Signal 0 4 ∷ []) ∷ thread 0 (Wait 1 ∷ Signal 0 2 ∷ []) ∷ []) ≡ []
against_the_order = refl

-- hints of chains stand behind those of threads, and before those of contexts
between_threads_and_contexts :
    hints_of (with_chain 0 0 9 (system (context 0 1 10 ∷ context 0 1 10 ∷ []) (thread 0 (Wait 0 ∷ On 1 ∷ Signal 0 2 ∷ Enter 1 5 ∷ Leave 1 5 ∷ []) ∷ [])))
    ≡ Unawaited 0 1 ∷ Unheard 0 0 2 ∷ Inverted 0 1 5 5 ∷ Unreached 0 0 0 ∷ Unbound 1 ∷ []
between_threads_and_contexts = refl
