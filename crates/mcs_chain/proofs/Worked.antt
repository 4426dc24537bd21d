-- Chains that were worked by hand, of the rows of small systems.
use Rattle.std.specs.Prelude.{◌≡◌, ℕ, List, [], ◌∷◌, Some, None, refl}
use Rattle.mcs_ticks.specs.declared.row.Row.{Row}
use Rattle.mcs_ticks.specs.declared.row.What.{What}
use Rattle.mcs_ticks.specs.declared.row.What.TheVariants as row
use Rattle.mcs_ticks.specs.declared.row.Why.TheVariants as why
use Rattle.mcs_script.specs.declared.item.Item.{Item}
use Rattle.mcs_script.specs.declared.item.Item.TheVariants.{Compute, Signal, Wait, On}
use Rattle.mcs_control.specs.declared.config.Mode.TheVariants as mode
use Rattle.mcs_system.specs.declared.part.ContextPart.{ContextPart}
use Rattle.mcs_system.specs.declared.part.ChainPart.{ChainPart}
use Rattle.mcs_system.specs.declared.part.NotePart.{NotePart}
use Rattle.mcs_system.specs.declared.part.SourcePart.{SourcePart}
use Rattle.mcs_system.specs.declared.part.ThreadPart.{ThreadPart}
use Rattle.mcs_system.specs.System.{System}
use Rattle.mcs_chain.specs.declared.finding.Finding.TheVariants.{Slow, Unanswered}
use Rattle.mcs_chain.specs.declared.answer.Answer.{Answer}
use Rattle.mcs_chain.specs.Answering.{answers_at}
use Rattle.mcs_chain.specs.Answers.{origins, latencies, judged, slow, unanswered, interrupts}

-- thread i has context i; a context is on a core
abbrev thread : ℕ → List Item → ThreadPart
thread context script = record { name = []; context = context; priority = 5; start = 0; rounds = 0; deadline = 0; script = script }

abbrev context : ℕ → ContextPart
context core = record { name = []; core = core; config = record { budget = 9; period = 20; extra = 0 }; mode = mode.Sporadic }

abbrev note : ℕ → NotePart
note core = record { name = []; core = core; word = 0 }

abbrev source : ℕ → ℕ → SourcePart
source note badge = record { name = []; note = note; badge = badge }

abbrev chain : ℕ → ℕ → ℕ → ℕ → ChainPart
chain source thread badges deadline = record { name = []; source = source; thread = thread; badges = badges; deadline = deadline }

abbrev system : List ContextPart → List NotePart → List ThreadPart → List SourcePart → System
system contexts notes threads sources =
    record {
      cores = 2;
      delay = 2;
      call = 1;
      min_budget = 1;
      contexts = contexts;
      notes = notes;
      threads = threads;
      orders = [];
      links = [];
      servers = 0;
      sources = sources;
      beats = [];
      chains = [];
    }

abbrev at : ℕ → ℕ → What → Row
at moment core what = record { moment = moment; core = core; what = what }

-- these rows after those, the latest first
abbrev latest_first : List Row → List Row → List Row
latest_first past [] = past
latest_first past (r ∷ rows) = latest_first (r ∷ past) rows

-- an answer of chain n
abbrev answer : ℕ → ℕ → ℕ → ℕ → ℕ → ℕ → ℕ → ℕ → Answer
answer moment core n thread number origin latency deadline =
    record { moment = moment; core = core; chain = n; thread = thread; number = number; origin = origin; latency = latency; deadline = deadline }

-- an interrupt at 3 wakes a driver, whose signal reaches the other core at 8; a thread there ends its round at 12
abbrev two_cores : System
two_cores =
    system (context 0 ∷ context 1 ∷ []) (note 0 ∷ note 1 ∷ [])
    (thread 0 (Wait 0 ∷ Compute 2 ∷ Signal 1 1 ∷ []) ∷ thread 1 (Wait 1 ∷ Compute 4 ∷ []) ∷ []) (source 0 1 ∷ [])

abbrev over_two_cores : List Row
over_two_cores =
    at 0 0 (row.Release 0) ∷ at 0 0 (row.Run 0) ∷ at 0 1 (row.Release 1) ∷ at 0 1 (row.Run 1) ∷ at 1 0 (row.Stop 0 why.Wait 1 None)
    ∷ at 1 1 (row.Stop 1 why.Wait 1 None) ∷ at 3 0 (row.Interrupt 0 0 1) ∷ at 3 0 (row.Wake 0 0 1 None) ∷ at 3 0 (row.Run 0)
    ∷ at 6 0 (row.Signal 0 1 1) ∷ at 6 0 (row.Round 0 1 3) ∷ at 7 0 (row.Stop 0 why.Wait 4 None) ∷ at 8 1 (row.Arrive 1 1 0)
    ∷ at 8 1 (row.Wake 1 1 1 None) ∷ at 8 1 (row.Run 1) ∷ at 12 1 (row.Round 1 1 4) ∷ at 13 1 (row.Stop 1 why.Wait 5 None) ∷ []

nine_ticks : latencies two_cores (chain 0 1 0 8) (latest_first [] over_two_cores) ≡ 9 ∷ []
nine_ticks = refl

no_origin_is_left : (origins two_cores (chain 0 1 0 8) (latest_first [] over_two_cores)).unanswered ≡ []
no_origin_is_left = refl

-- the driver's own round answers at 6
three_ticks : latencies two_cores (chain 0 0 0 8) (latest_first [] over_two_cores) ≡ 3 ∷ []
three_ticks = refl

abbrev before_the_answer : List Row
before_the_answer =
    latest_first []
    (at 3 0 (row.Interrupt 0 0 1) ∷ at 3 0 (row.Wake 0 0 1 None) ∷ at 6 0 (row.Signal 0 1 1) ∷ at 6 0 (row.Round 0 1 3)
    ∷ at 8 1 (row.Arrive 1 1 0) ∷ at 8 1 (row.Wake 1 1 1 None) ∷ [])

-- one tick more than the deadline allows; an answer at the deadline itself is not slow
answers_late : slow two_cores (chain 0 1 0 8) before_the_answer (at 12 1 (row.Round 1 1 4)) ≡ Some (Slow 9 8 3)
answers_late = refl

answers_in_time : slow two_cores (chain 0 1 0 9) before_the_answer (at 12 1 (row.Round 1 1 4)) ≡ None
answers_in_time = refl

answers_one : answers_at two_cores before_the_answer (at 12 1 (row.Round 1 1 4)) 0 (chain 0 1 0 8 ∷ []) ≡ answer 12 1 0 1 1 3 9 8 ∷ []
answers_one = refl

-- of two chains only that of the driver is answered at 6, where it ends its first round
answers_of_the_driver :
    answers_at two_cores
    (latest_first [] (at 3 0 (row.Interrupt 0 0 1) ∷ at 3 0 (row.Wake 0 0 1 None) ∷ at 6 0 (row.Signal 0 1 1) ∷ []))
    (at 6 0 (row.Round 0 1 3)) 0 (chain 0 1 0 8 ∷ chain 0 0 0 0 ∷ [])
    ≡ answer 6 0 1 0 1 3 3 0 ∷ []
answers_of_the_driver = refl

-- before that end of a round the origin of 3 has no answer; its deadline passes at 11
has_no_answer : unanswered two_cores (chain 0 1 0 8) before_the_answer 11 ≡ Some (Unanswered 8 3)
has_no_answer = refl

has_time_left : unanswered two_cores (chain 0 1 0 8) before_the_answer 10 ≡ None
has_time_left = refl

-- Handlers: sources 0 and 1 post the badges 1 and 2 at 2, so the thread goes through its first handler, and then through its second one.
abbrev handlers : System
handlers =
    system (context 0 ∷ []) (note 0 ∷ []) (thread 0 (Wait 0 ∷ On 1 ∷ Compute 2 ∷ On 2 ∷ Compute 3 ∷ []) ∷ []) (source 0 1 ∷ source 0 2 ∷ [])

abbrev handled : List Row
handled =
    latest_first []
    (at 0 0 (row.Release 0) ∷ at 0 0 (row.Run 0) ∷ at 1 0 (row.Stop 0 why.Wait 1 None) ∷ at 2 0 (row.Interrupt 0 0 1)
    ∷ at 2 0 (row.Wake 0 0 1 None) ∷ at 2 0 (row.Interrupt 1 0 2) ∷ at 2 0 (row.Hold 0 2) ∷ at 2 0 (row.Run 0) ∷ at 4 0 (row.Round 0 1 2)
    ∷ at 5 0 (row.Got 0 0 2) ∷ at 8 0 (row.Round 0 2 3) ∷ at 9 0 (row.Stop 0 why.Wait 7 None) ∷ at 12 0 (row.Interrupt 0 0 1)
    ∷ at 12 0 (row.Wake 0 0 1 None) ∷ at 12 0 (row.Run 0) ∷ [])

first_source : latencies handlers (chain 0 0 0 0) handled ≡ 2 ∷ []
first_source = refl

first_source_interrupts : interrupts (chain 0 0 0 0) handled ≡ 2
first_source_interrupts = refl

second_source : latencies handlers (chain 1 0 0 0) handled ≡ 6 ∷ []
second_source = refl

-- no round with the badge 2 is based on an interrupt of source 0
other_badge : latencies handlers (chain 0 0 2 0) handled ≡ []
other_badge = refl

never_answered : (origins handlers (chain 0 0 2 0) handled).unanswered ≡ 2 ∷ 12 ∷ []
never_answered = refl

-- One round answers all interrupts that are held together. The latest answer stands first.
abbrev one_loop : System
one_loop = system (context 0 ∷ []) (note 0 ∷ []) (thread 0 (Wait 0 ∷ Compute 20 ∷ []) ∷ []) (source 0 1 ∷ [])

abbrev overload : List Row
overload =
    latest_first []
    (at 2 0 (row.Interrupt 0 0 1) ∷ at 2 0 (row.Wake 0 0 1 None) ∷ at 12 0 (row.Interrupt 0 0 1) ∷ at 12 0 (row.Hold 0 1)
    ∷ at 22 0 (row.Interrupt 0 0 1) ∷ at 22 0 (row.Hold 0 1) ∷ at 22 0 (row.Round 0 1 20) ∷ at 23 0 (row.Got 0 0 1)
    ∷ at 32 0 (row.Interrupt 0 0 1) ∷ at 32 0 (row.Hold 0 1) ∷ at 43 0 (row.Round 0 2 20) ∷ [])

answered_together : latencies one_loop (chain 0 0 0 0) overload ≡ 21 ∷ 31 ∷ 20 ∷ []
answered_together = refl

-- the round's answer for the earliest origin comes first, and the first chain comes before the second
abbrev overloaded : List Row
overloaded =
    latest_first []
    (at 12 0 (row.Interrupt 0 0 1) ∷ at 12 0 (row.Hold 0 1) ∷ at 22 0 (row.Interrupt 0 0 1) ∷ at 22 0 (row.Hold 0 1) ∷ at 23 0 (row.Got 0 0 1) ∷ [])

answers_two : answers_at one_loop overloaded (at 43 0 (row.Round 0 2 20)) 0 (chain 0 0 0 15 ∷ chain 0 0 0 0 ∷ [])
    ≡ answer 43 0 0 0 2 12 31 15 ∷ answer 43 0 0 0 2 22 21 15 ∷ answer 43 0 1 0 2 12 31 0 ∷ answer 43 0 1 0 2 22 21 0 ∷ []
answers_two = refl

-- no other row answers
answers_none : answers_at one_loop overloaded (at 43 0 (row.Stop 0 why.Wait 20 None)) 0 (chain 0 0 0 15 ∷ []) ≡ []
answers_none = refl

-- the answers of a chain are judged if it has a deadline
three_judged : judged one_loop (chain 0 0 0 15) overload ≡ 3
three_judged = refl

none_judged : judged one_loop (chain 0 0 0 0) overload ≡ 0
none_judged = refl

-- of two slow answers the one for the earlier origin is found
earliest_is_slow :
    slow one_loop (chain 0 0 0 15)
    (latest_first []
    (at 2 0 (row.Interrupt 0 0 1) ∷ at 2 0 (row.Hold 0 1) ∷ at 3 0 (row.Interrupt 0 0 1) ∷ at 3 0 (row.Hold 0 1) ∷ at 4 0 (row.Got 0 0 1) ∷ []))
    (at 24 0 (row.Round 0 1 20))
    ≡ Some (Slow 22 15 2)
earliest_is_slow = refl

-- The first answer counts: the driver signals before its work and after it, and the other thread ends a round for each.
abbrev signals_twice : System
signals_twice =
    system (context 0 ∷ context 0 ∷ []) (note 0 ∷ note 0 ∷ [])
    (thread 0 (Wait 0 ∷ Signal 1 1 ∷ Compute 5 ∷ Signal 1 1 ∷ []) ∷ thread 1 (Wait 1 ∷ Compute 1 ∷ []) ∷ []) (source 0 1 ∷ [])

abbrev answered_twice : List Row
answered_twice =
    latest_first []
    (at 2 0 (row.Interrupt 0 0 1) ∷ at 2 0 (row.Wake 0 0 1 None) ∷ at 3 0 (row.Signal 0 1 1) ∷ at 3 0 (row.Wake 1 1 1 None) ∷ at 4 0 (row.Round 1 1 1)
    ∷ at 10 0 (row.Signal 0 1 1) ∷ at 10 0 (row.Wake 1 1 1 None) ∷ at 10 0 (row.Round 0 1 8) ∷ at 11 0 (row.Round 1 2 1) ∷ [])

first_answer : latencies signals_twice (chain 0 1 0 0) answered_twice ≡ 2 ∷ []
first_answer = refl

-- An origin gets no answer if no handler takes its badge, alone or beside another one.
abbrev nobodys : List Row
nobodys =
    latest_first []
    (at 2 0 (row.Interrupt 0 0 4) ∷ at 2 0 (row.Wake 0 0 4 None) ∷ at 3 0 (row.Interrupt 1 0 1) ∷ at 3 0 (row.Hold 0 1)
    ∷ at 4 0 (row.Interrupt 0 0 4) ∷ at 4 0 (row.Hold 0 5) ∷ at 5 0 (row.Got 0 0 5) ∷ at 7 0 (row.Round 0 1 2) ∷ [])

no_answer : latencies handlers (chain 0 0 0 0) nobodys ≡ []
no_answer = refl

answer_beside_it : latencies handlers (chain 1 0 0 0) nobodys ≡ 4 ∷ []
answer_beside_it = refl

-- A signal carries what its handler's bits have: that of the first handler goes to thread 1, that of the second one to thread 2.
abbrev two_ways : System
two_ways =
    system (context 0 ∷ context 0 ∷ context 0 ∷ []) (note 0 ∷ note 0 ∷ note 0 ∷ [])
    (thread 0 (Wait 0 ∷ On 1 ∷ Signal 1 1 ∷ On 2 ∷ Signal 2 1 ∷ []) ∷ thread 1 (Wait 1 ∷ Compute 1 ∷ []) ∷ thread 2 (Wait 2 ∷ Compute 1 ∷ []) ∷ [])
    (source 0 1 ∷ source 0 2 ∷ [])

abbrev both_ways : List Row
both_ways =
    latest_first []
    (at 2 0 (row.Interrupt 0 0 1) ∷ at 2 0 (row.Hold 0 1) ∷ at 3 0 (row.Interrupt 1 0 2) ∷ at 3 0 (row.Hold 0 3) ∷ at 4 0 (row.Got 0 0 3)
    ∷ at 5 0 (row.Signal 0 1 1) ∷ at 5 0 (row.Wake 1 1 1 None) ∷ at 6 0 (row.Signal 0 2 1) ∷ at 6 0 (row.Wake 2 2 1 None) ∷ at 6 0 (row.Round 0 1 2)
    ∷ at 7 0 (row.Round 1 1 1) ∷ at 8 0 (row.Round 2 1 1) ∷ [])

first_way : latencies two_ways (chain 0 1 0 0) both_ways ≡ 5 ∷ []
first_way = refl

second_way : latencies two_ways (chain 1 2 0 0) both_ways ≡ 5 ∷ []
second_way = refl

not_the_other_way : latencies two_ways (chain 0 2 0 0) both_ways ≡ []
not_the_other_way = refl

-- A later wait gives its origins to the bits of its handler, here 1: the signal of the handler of 2 carries none of them, and a round
-- that has both bits answers a chain of badge 1 alone.
abbrev later_wait : System
later_wait =
    system (context 0 ∷ context 0 ∷ []) (note 0 ∷ note 0 ∷ note 0 ∷ [])
    (thread 0 (Wait 0 ∷ On 1 ∷ Wait 1 ∷ Compute 1 ∷ On 2 ∷ Signal 2 1 ∷ []) ∷ thread 1 (Wait 2 ∷ Compute 1 ∷ []) ∷ []) (source 1 1 ∷ [])

abbrev waited_later : List Row
waited_later =
    latest_first []
    (at 1 0 (row.Hold 0 3) ∷ at 2 0 (row.Got 0 0 3) ∷ at 3 0 (row.Interrupt 0 1 1) ∷ at 3 0 (row.Hold 1 1) ∷ at 4 0 (row.Got 0 1 1)
    ∷ at 6 0 (row.Signal 0 2 1) ∷ at 6 0 (row.Wake 1 2 1 None) ∷ at 6 0 (row.Round 0 1 4) ∷ at 8 0 (row.Round 1 1 1) ∷ [])

handler_has_it : latencies later_wait (chain 0 0 1 0) waited_later ≡ 3 ∷ []
handler_has_it = refl

other_handler_has_none : latencies later_wait (chain 0 0 2 0) waited_later ≡ []
other_handler_has_none = refl

signal_has_none : latencies later_wait (chain 0 1 0 0) waited_later ≡ []
signal_has_none = refl

-- a wait in no handler, that is not the script's first item, gives to the free set, which each signal carries
abbrev in_the_middle : System
in_the_middle =
    system (context 0 ∷ context 1 ∷ []) (note 0 ∷ note 1 ∷ [])
    (thread 0 (Compute 1 ∷ Wait 0 ∷ Signal 1 1 ∷ []) ∷ thread 1 (Wait 1 ∷ Compute 1 ∷ []) ∷ []) (source 0 1 ∷ [])

-- here the earlier one of two signals under way carries nothing
goes_on :
    latencies in_the_middle (chain 0 1 0 0)
    (latest_first []
    (at 1 0 (row.Hold 0 1) ∷ at 2 0 (row.Got 0 0 1) ∷ at 3 0 (row.Signal 0 1 1) ∷ at 3 0 (row.Round 0 1 3) ∷ at 3 0 (row.Interrupt 0 0 1)
    ∷ at 3 0 (row.Hold 0 1) ∷ at 5 0 (row.Got 0 0 1) ∷ at 5 1 (row.Arrive 1 1 0) ∷ at 5 1 (row.Wake 1 1 1 None) ∷ at 6 0 (row.Signal 0 1 1)
    ∷ at 6 0 (row.Round 0 2 3) ∷ at 6 1 (row.Round 1 1 1) ∷ at 8 1 (row.Arrive 1 1 0) ∷ at 8 1 (row.Wake 1 1 1 None) ∷ at 9 1 (row.Round 1 2 1) ∷ []))
    ≡ 6 ∷ []
goes_on = refl
