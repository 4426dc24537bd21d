-- Explanations of rounds and of answers, worked by hand.
use Rattle.std.specs.Prelude.{◌≡◌, ◌++◌, ℕ, List, [], ◌∷◌, Some, codes, refl}
use Rattle.std.specs.Fmt.{digits}
use Rattle.serde_json.proofs.OnLiterals.{serde_json_on_literals}
use Rattle.mcs_script.specs.declared.item.Item.{Item}
use Rattle.mcs_script.specs.declared.item.Item.TheVariants.{Compute, Signal, Wait}
use Rattle.mcs_control.specs.declared.config.Mode.TheVariants as mode
use Rattle.mcs_system.specs.declared.part.ChainPart.{ChainPart}
use Rattle.mcs_system.specs.declared.part.ContextPart.{ContextPart}
use Rattle.mcs_system.specs.declared.part.ThreadPart.{ThreadPart}
use Rattle.mcs_system.specs.System.{System}
use Rattle.mcs_check_words.specs.declared.asked.Format.TheVariants as format
use Rattle.mcs_explain.specs.declared.asked.Asked.TheVariants as asked
use Rattle.mcs_explain.specs.declared.found.Found.TheVariants as found
use Rattle.mcs_explain.specs.Asked.{asked_of, round_number, thread_named}
use Rattle.mcs_explain.specs.Why.{found_of, why_text}

abbrev context : List ℕ → ℕ → ContextPart
context name budget =
    record { name = name; core = 0; config = record { budget = budget; period = 20; extra = 0 }; mode = mode.Sporadic }

abbrev thread : List ℕ → ℕ → ℕ → ℕ → List Item → ThreadPart
thread name context priority rounds script =
    record { name = name; context = context; priority = priority; start = 0; rounds = rounds; deadline = 0; script = script }

-- the low thread works for 3 ticks and then signals, once, and the high one waits for it, again and again
system : System
system =
    record {
      cores = 1;
      delay = 1;
      call = 1;
      min_budget = 1;
      contexts = context (codes "l") 19 ∷ context (codes "h") 10 ∷ [];
      notes = record { name = codes "x"; core = 0; word = 0 } ∷ [];
      threads = thread (codes "Low") 0 1 1 (Compute 3 ∷ Signal 0 1 ∷ []) ∷ thread (codes "High") 1 9 0 (Wait 0 ∷ Compute 2 ∷ []) ∷ [];
      orders = [];
      links = [];
      servers = 0;
      sources = [];
      beats = [];
      chains = [];
    }

-- The high one waits from 1 on, and is woken at 5; its second round has not begun at 9.
waited : why_text format.Text system 9 (codes "High", codes "1")
    ≡ codes "1 0 stop High wait 1\n1 0 run Low\n5 0 signal Low x 1\n5 0 wake High x 1\n5 0 round Low 1 5\n5 0 stop Low done 4\n5 0 run High\n7 0 round High 1 2\n"
    ++ codes "why High round 1 from 1 to 7 waited 4 activated 5 begun 5 ended 7\nran Low ticks 4\nran High ticks 2\nidle ticks 0\n"
unfolding system digits
waited = refl

waits : why_text format.Text system 9 (codes "High", codes "2")
    ≡ codes "8 0 stop High wait 3\nwhy High round 2 from 8 to 9 waited 1 activated - begun - ended -\nidle ticks 1\n"
unfolding system digits
waits = refl

-- what is not there is no member of an object
as_objects : why_text format.Json system 9 (codes "High", codes "2")
    ≡ codes "{\"moment\":8,\"core\":0,\"kind\":\"stop\",\"thread\":\"High\",\"why\":\"wait\",\"charged\":3}\n"
    ++ codes "{\"kind\":\"why\",\"thread\":\"High\",\"number\":2,\"from\":8,\"to\":9,\"waited\":1}\n{\"kind\":\"idle\",\"ticks\":1}\n"
unfolding system digits serde_json_on_literals
as_objects = refl

-- It has no third round, and the low one no second, since it is done after its first.
two_rounds : found_of system 9 (codes "High", codes "3") ≡ found.NoRound 2
unfolding system
two_rounds = refl

one_round : found_of system 9 (codes "Low", codes "2") ≡ found.NoRound 1
unfolding system
one_round = refl

no_thread : found_of system 9 (codes "Hihg", codes "1") ≡ found.Nobody
unfolding system
no_thread = refl

second_thread : thread_named system.threads (codes "High") ≡ Some 1
unfolding system
second_thread = refl

-- a thread on a context of its own, whose budget is its period
abbrev whole : List ℕ → ℕ → ContextPart
whole name core =
    record { name = name; core = core; config = record { budget = 100; period = 100; extra = 0 }; mode = mode.Sporadic }

abbrev waiting : List ℕ → ℕ → List Item → ThreadPart
waiting name context script =
    record { name = name; context = context; priority = 5; start = 0; rounds = 0; deadline = 0; script = script }

abbrev chain : List ℕ → ChainPart
chain name = record { name = name; source = 0; thread = 1; badges = 0; deadline = 7 }

-- An interrupt each 10 ticks wakes D, the first one at 3. The signal of D leaves 3 ticks later and wakes C on the other core 2 later. The
-- job of C takes 4. One chain has the name of the thread.
two_cores : System
two_cores =
    record {
      cores = 2;
      delay = 2;
      call = 1;
      min_budget = 1;
      contexts = whole (codes "d") 0 ∷ whole (codes "c") 1 ∷ [];
      notes = record { name = codes "n"; core = 0; word = 0 } ∷ record { name = codes "p"; core = 1; word = 0 } ∷ [];
      threads = waiting (codes "D") 0 (Wait 0 ∷ Compute 2 ∷ Signal 1 1 ∷ []) ∷ waiting (codes "C") 1 (Wait 1 ∷ Compute 4 ∷ []) ∷ [];
      orders = [];
      links = [];
      servers = 0;
      sources = record { name = codes "s"; note = 0; badge = 1 } ∷ [];
      beats = record { source = 0; first = 3; period = 10; count = 0 } ∷ [];
      chains = chain (codes "packet") ∷ chain (codes "C") ∷ [];
    }

way : why_text format.Text two_cores 12 (codes "packet", codes "1")
    ≡ codes "12 1 answer packet round 1 origin 3 latency 9 deadline 7\n3 0 ran D to 6 ticks 3 ready 0 running 3 throttled 0 blocked 0 server 0\n"
    ++ codes "6 0 delay core 1 to 8 ticks 2\n8 1 ran C to 12 ticks 4 ready 0 running 4 throttled 0 blocked 0 server 0\n"
    ++ codes "sum ticks 9 held 0 delay 2 ready 0 running 7 throttled 0 blocked 0 server 0\n"
unfolding two_cores digits
way = refl

-- the second interrupt is answered at 22
one_answer : found_of two_cores 12 (codes "packet", codes "2") ≡ found.NoAnswer 1
unfolding two_cores
one_answer = refl

-- no interrupt was answered up to 11
no_answer : found_of two_cores 11 (codes "packet", codes "1") ≡ found.NoAnswer 0
unfolding two_cores
no_answer = refl

-- names of a chain, of both, and of nobody
chain_asked : asked_of two_cores (codes "packet") ≡ asked.Answer 0
unfolding two_cores
chain_asked = refl

thread_first : asked_of two_cores (codes "C") ≡ asked.Round 1
unfolding two_cores
thread_first = refl

nobody_asked : asked_of two_cores (codes "packt") ≡ asked.Nobody
unfolding two_cores
nobody_asked = refl

-- texts as numbers
twelve : round_number (codes "12") ≡ 12
twelve = refl

seven : round_number (codes "+7") ≡ 7
seven = refl

no_number : round_number (codes "last") ≡ 0
no_number = refl

nothing : round_number [] ≡ 0
nothing = refl

too_great : round_number (codes "18446744073709551616") ≡ 0
too_great = refl
