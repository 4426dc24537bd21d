-- Ways that were worked by hand, of the rows of small systems.
use Rattle.std.specs.Prelude.{◌≡◌, ℕ, List, [], ◌∷◌, get_or, Some, None, refl}
use Rattle.mcs_ticks.specs.declared.row.Row.{Row}
use Rattle.mcs_ticks.specs.declared.row.What.{What}
use Rattle.mcs_ticks.specs.declared.row.What.TheVariants as row
use Rattle.mcs_ticks.specs.declared.row.Why.TheVariants as why
use Rattle.mcs_script.specs.declared.item.Item.{Item}
use Rattle.mcs_script.specs.declared.item.Item.TheVariants.{Compute, Signal, Wait, On}
use Rattle.mcs_control.specs.declared.config.Mode.TheVariants as mode
use Rattle.mcs_system.specs.declared.part.ContextPart.{ContextPart}
use Rattle.mcs_system.specs.declared.part.ChainPart.{ChainPart}
use Rattle.mcs_system.specs.declared.part.NotePart.{NotePart}
use Rattle.mcs_system.specs.declared.part.SourcePart.{SourcePart}
use Rattle.mcs_system.specs.declared.part.ThreadPart.{ThreadPart}
use Rattle.mcs_system.specs.System.{System}
use Rattle.mcs_verdict.specs.declared.standing.Stood.{Stood}
use Rattle.mcs_chain.specs.declared.answer.Answer.{Answer}
use Rattle.mcs_way.specs.declared.leg.Carrier.{Carrier}
use Rattle.mcs_way.specs.declared.leg.Carrier.TheVariants as by
use Rattle.mcs_way.specs.declared.leg.Leg.{Leg}
use Rattle.mcs_way.specs.declared.sought.Sought.TheVariants.{There, Missing}
use Rattle.mcs_way.specs.Sought.{sought}
use Rattle.mcs_way.specs.Trail.{aim_of, course_of, way_of}

-- thread i has context i; a context is on a core
abbrev thread : ℕ → List Item → ThreadPart
thread context script = record { name = []; context = context; priority = 5; start = 0; rounds = 0; deadline = 0; script = script }

abbrev context : ℕ → ContextPart
context core = record { name = []; core = core; config = record { budget = 9; period = 20; extra = 0 }; mode = mode.Sporadic }

abbrev note : ℕ → NotePart
note core = record { name = []; core = core; word = 0 }

abbrev source : ℕ → ℕ → SourcePart
source note badge = record { name = []; note = note; badge = badge }

-- a chain without a deadline that every round of its thread answers
abbrev chain : ℕ → ℕ → ChainPart
chain source thread = record { name = []; source = source; thread = thread; badges = 0; deadline = 0 }

abbrev system : List ContextPart → List NotePart → List ThreadPart → List SourcePart → List ChainPart → System
system contexts notes threads sources chains =
    record {
      cores = 2;
      delay = 2;
      call = 1;
      min_budget = 1;
      contexts = contexts;
      notes = notes;
      threads = threads;
      orders = [];
      links = [];
      servers = 0;
      sources = sources;
      beats = [];
      chains = chains;
    }

abbrev at : ℕ → ℕ → What → Row
at moment core what = record { moment = moment; core = core; what = what }

-- these rows after those, the latest first
abbrev latest_first : List Row → List Row → List Row
latest_first past [] = past
latest_first past (r ∷ rows) = latest_first (r ∷ past) rows

-- an answer of chain n
abbrev answer : ℕ → ℕ → ℕ → ℕ → ℕ → ℕ → ℕ → Answer
answer moment core n thread number origin latency =
    record { moment = moment; core = core; chain = n; thread = thread; number = number; origin = origin; latency = latency; deadline = 0 }

-- how long a thread was ready, running and throttled
abbrev stood : ℕ → ℕ → ℕ → Stood
stood ready running throttled =
    record { pending = 0; ready = ready; running = running; throttled = throttled; blocked = 0; server = 0; done = 0 }

abbrev leg : ℕ → Carrier → ℕ → Leg
leg from carrier to = record { carrier = carrier; from = from; to = to }

-- One core, and a handler for each source. The thread is woken for the first interrupt; the second one is held until it takes it at 5.
abbrev handlers : System
handlers =
    system (context 0 ∷ []) (note 0 ∷ []) (thread 0 (Wait 0 ∷ On 1 ∷ Compute 2 ∷ On 2 ∷ Compute 3 ∷ []) ∷ []) (source 0 1 ∷ source 0 2 ∷ [])
    (chain 0 0 ∷ chain 1 0 ∷ [])

abbrev handled : List Row
handled =
    latest_first []
    (at 0 0 (row.Release 0) ∷ at 0 0 (row.Run 0) ∷ at 1 0 (row.Stop 0 why.Wait 1 None) ∷ at 2 0 (row.Interrupt 0 0 1)
    ∷ at 2 0 (row.Wake 0 0 1 None) ∷ at 2 0 (row.Interrupt 1 0 2) ∷ at 2 0 (row.Hold 0 2) ∷ at 2 0 (row.Run 0) ∷ at 4 0 (row.Round 0 1 2)
    ∷ at 5 0 (row.Got 0 0 2) ∷ at 8 0 (row.Round 0 2 3) ∷ at 9 0 (row.Stop 0 why.Wait 7 None) ∷ [])

taken_at_once : way_of handlers (answer 4 0 0 0 1 2 2) handled ≡ leg 2 (by.Thread 0 (stood 0 2 0)) 4 ∷ []
taken_at_once = refl

held_first : way_of handlers (answer 8 0 1 0 2 2 6) handled ≡ leg 2 (by.Note 0) 5 ∷ leg 5 (by.Thread 0 (stood 0 3 0)) 8 ∷ []
held_first = refl

-- Two cores: the driver is woken at 3, waits a tick for the processor, and signals at 6. The signal arrives at 8, and the thread that it
-- wakes waits two ticks for its budget.
abbrev two_cores : System
two_cores =
    system (context 0 ∷ context 1 ∷ []) (note 0 ∷ note 1 ∷ [])
    (thread 0 (Wait 0 ∷ Compute 2 ∷ Signal 1 1 ∷ []) ∷ thread 1 (Wait 1 ∷ Compute 4 ∷ []) ∷ []) (source 0 1 ∷ []) (chain 0 1 ∷ [])

abbrev before_the_answer : List Row
before_the_answer =
    latest_first []
    (at 0 0 (row.Release 0) ∷ at 0 0 (row.Run 0) ∷ at 0 1 (row.Release 1) ∷ at 0 1 (row.Run 1) ∷ at 1 0 (row.Stop 0 why.Wait 1 None)
    ∷ at 1 1 (row.Stop 1 why.Wait 1 None) ∷ at 3 0 (row.Interrupt 0 0 1) ∷ at 3 0 (row.Wake 0 0 1 None) ∷ at 4 0 (row.Run 0)
    ∷ at 6 0 (row.Signal 0 1 1) ∷ at 6 0 (row.Round 0 1 3) ∷ at 7 0 (row.Stop 0 why.Wait 3 None) ∷ at 8 1 (row.Arrive 1 1 0)
    ∷ at 8 1 (row.Wake 1 1 1 (Some 10)) ∷ at 10 1 (row.Release 1) ∷ at 10 1 (row.Run 1) ∷ [])

with_a_delay : way_of two_cores (answer 12 1 0 1 1 3 9) (at 12 1 (row.Round 1 1 4) ∷ before_the_answer)
    ≡ leg 3 (by.Thread 0 (stood 1 2 0)) 6 ∷ leg 6 (by.Signal 0 1) 8 ∷ leg 8 (by.Thread 1 (stood 0 2 2)) 12 ∷ []
with_a_delay = refl

-- before the answer there is no way
none_yet : way_of two_cores (answer 12 1 0 1 1 3 9) before_the_answer ≡ []
none_yet = refl

-- nor is there one for another origin
no_other_origin : way_of two_cores (answer 12 1 0 1 1 4 8) (at 12 1 (row.Round 1 1 4) ∷ before_the_answer) ≡ []
no_other_origin = refl

-- Two signals lead to the same thread, which takes both at 11. The first one was held since 3, and its way stays.
abbrev signals_twice : System
signals_twice =
    system (context 0 ∷ context 0 ∷ []) (note 0 ∷ note 0 ∷ [])
    (thread 0 (Wait 0 ∷ Signal 1 1 ∷ Compute 5 ∷ Signal 1 1 ∷ []) ∷ thread 1 (Wait 1 ∷ Compute 1 ∷ []) ∷ []) (source 0 1 ∷ []) (chain 0 1 ∷ [])

abbrev signalled_twice : List Row
signalled_twice =
    latest_first []
    (at 0 0 (row.Release 1) ∷ at 0 0 (row.Release 0) ∷ at 0 0 (row.Run 0) ∷ at 1 0 (row.Stop 0 why.Wait 1 None) ∷ at 2 0 (row.Interrupt 0 0 1)
    ∷ at 2 0 (row.Wake 0 0 1 None) ∷ at 2 0 (row.Run 0) ∷ at 3 0 (row.Signal 0 1 1) ∷ at 3 0 (row.Hold 1 1) ∷ at 10 0 (row.Signal 0 1 1)
    ∷ at 10 0 (row.Hold 1 1) ∷ at 10 0 (row.Round 0 1 8) ∷ at 10 0 (row.Stop 0 why.Wait 8 None) ∷ at 10 0 (row.Run 1) ∷ at 11 0 (row.Got 1 1 1)
    ∷ at 12 0 (row.Round 1 1 1) ∷ [])

first_way_stays : way_of signals_twice (answer 12 0 0 1 1 2 10) signalled_twice
    ≡ leg 2 (by.Thread 0 (stood 0 1 0)) 3 ∷ leg 3 (by.Note 1) 11 ∷ leg 11 (by.Thread 1 (stood 0 1 0)) 12 ∷ []
first_way_stays = refl

-- The driver signals two threads. The one that is woken first has no handler for its badge and drops the origin; the other one answers it.
abbrev two_branches : System
two_branches =
    system (context 0 ∷ context 0 ∷ context 0 ∷ []) (note 0 ∷ note 0 ∷ note 0 ∷ [])
    (thread 0 (Wait 0 ∷ Signal 2 4 ∷ Signal 1 1 ∷ []) ∷ thread 1 (Wait 1 ∷ Compute 1 ∷ []) ∷ thread 2 (Wait 2 ∷ On 2 ∷ Compute 1 ∷ []) ∷ [])
    (source 0 1 ∷ []) (chain 0 1 ∷ [])

abbrev both_signalled : List Row
both_signalled =
    latest_first []
    (at 2 0 (row.Interrupt 0 0 1) ∷ at 2 0 (row.Wake 0 0 1 None) ∷ at 2 0 (row.Run 0) ∷ at 3 0 (row.Signal 0 2 4) ∷ at 3 0 (row.Wake 2 2 4 None)
    ∷ at 4 0 (row.Signal 0 1 1) ∷ at 4 0 (row.Wake 1 1 1 None) ∷ at 4 0 (row.Round 0 1 2) ∷ at 5 0 (row.Stop 0 why.Wait 3 None)
    ∷ at 5 0 (row.Run 1) ∷ [])

dropped_here : get_or (course_of two_branches (aim_of two_branches (answer 7 0 0 1 1 2 5)) both_signalled).carried 2 None ≡ None
dropped_here = refl

answered_there : way_of two_branches (answer 7 0 0 1 1 2 5) (at 7 0 (row.Round 1 1 2) ∷ both_signalled)
    ≡ leg 2 (by.Thread 0 (stood 0 2 0)) 4 ∷ leg 4 (by.Thread 1 (stood 1 2 0)) 7 ∷ []
answered_there = refl

-- A chain's answers are numbered from 1, and of a round that answers several the one for the earliest interrupt comes first.
abbrev one_loop : System
one_loop = system (context 0 ∷ []) (note 0 ∷ []) (thread 0 (Wait 0 ∷ Compute 20 ∷ []) ∷ []) (source 0 1 ∷ []) (chain 0 0 ∷ [])

abbrev overload : List Row
overload =
    latest_first []
    (at 2 0 (row.Interrupt 0 0 1) ∷ at 2 0 (row.Wake 0 0 1 None) ∷ at 12 0 (row.Interrupt 0 0 1) ∷ at 12 0 (row.Hold 0 1)
    ∷ at 22 0 (row.Interrupt 0 0 1) ∷ at 22 0 (row.Hold 0 1) ∷ at 22 0 (row.Round 0 1 20) ∷ at 23 0 (row.Got 0 0 1)
    ∷ at 32 0 (row.Interrupt 0 0 1) ∷ at 32 0 (row.Hold 0 1) ∷ at 43 0 (row.Round 0 2 20) ∷ [])

second_answer : sought one_loop 0 2 overload ≡ There (answer 43 0 0 0 2 12 31)
second_answer = refl

third_answer : sought one_loop 0 3 overload ≡ There (answer 43 0 0 0 2 22 21)
third_answer = refl

no_fourth_answer : sought one_loop 0 4 overload ≡ Missing 3
no_fourth_answer = refl

none_is_numbered_0 : sought one_loop 0 0 overload ≡ Missing 3
none_is_numbered_0 = refl

no_other_chain : sought one_loop 1 1 overload ≡ Missing 0
no_other_chain = refl
