-- Lines of a check for all time, worked by hand.
use Rattle.std.specs.Prelude.{◌≡◌, Bool, true, false, List, [], ◌∷◌, ℕ, Some, None, codes, refl}
use Rattle.std.specs.Fmt.{digits}
use Rattle.serde_json.proofs.OnLiterals.{serde_json_on_literals}
use Rattle.mcs_script.specs.declared.item.Item.TheVariants.{Compute, Wait, Spin}
use Rattle.mcs_control.specs.declared.config.Mode.TheVariants as mode
use Rattle.mcs_system.specs.System.{System}
use Rattle.mcs_ever_told.specs.declared.line.Totals.{Totals}
use Rattle.mcs_ever_told.specs.declared.line.Line.TheVariants.{Repeats, Open, Miss, Lost, Overdue, Never, Untaken, Endless, Inactive, Abandoned, Thread, Computes, ThreadSoFar, Clean, Sets}
use Rattle.mcs_ever_told.specs.declared.line.LineFormat.TheVariants as format
use Rattle.mcs_ever_told.specs.declared.line.Often.TheVariants.{Forever, SoFar}
use Rattle.mcs_ever_told.specs.Formats.{line_text, lines_text}
use Rattle.mcs_verdict.specs.declared.finding.Finding.TheVariants as finding
use Rattle.mcs_verdict.specs.Stood.{no_ticks}
use Rattle.mcs_ever_told.specs.Lines.{clean_lines, end_lines, ever_lines, spins, thread_told, so_far_told}

-- three cores, a thread T and a notification N
system : System
system =
    record {
      cores = 3;
      delay = 1;
      call = 1;
      min_budget = 1;
      contexts = record { name = codes "c"; core = 0; config = record { budget = 2; period = 5; extra = 0 }; mode = mode.Sporadic } ∷ [];
      notes = record { name = codes "N"; core = 0; word = 0 } ∷ [];
      threads =
          record { name = codes "T"; context = 0; priority = 5; start = 0; rounds = 0; deadline = 10; script = Compute 5 ∷ [] } ∷ [];
      orders = [];
      links = [];
      servers = 0;
      sources = [];
      beats = [];
      chains = [];
    }

-- cores 0 and 2, and a core that the system does not have
abbrev two : List Bool
two = true ∷ false ∷ true ∷ true ∷ []

-- core 1
abbrev one : List Bool
one = false ∷ true ∷ false ∷ []

repeats : line_text format.Text system (Repeats two 13 12) ≡ codes "cores 0 2: repeats from 13 with period 12\n"
unfolding system digits
repeats = refl

repeats_object : line_text format.Json system (Repeats two 13 12) ≡ codes "{\"kind\":\"repeats\",\"cores\":\"0 2\",\"from\":13,\"period\":12}\n"
unfolding system digits serde_json_on_literals
repeats_object = refl

no_repetition : line_text format.Text system (Open one 10000000) ≡ codes "cores 1: no repetition found up to 10000000\n"
unfolding system digits
no_repetition = refl

no_repetition_object : line_text format.Json system (Open one 10000000) ≡ codes "{\"kind\":\"open\",\"cores\":\"1\",\"horizon\":10000000}\n"
unfolding system digits serde_json_on_literals
no_repetition_object = refl

-- two rounds in each period, and one before the first
miss : line_text format.Text system (Miss 0 (Forever 1 2)) ≡ codes "miss T: 2 in each period, 1 before\n"
unfolding system digits
miss = refl

miss_object : line_text format.Json system (Miss 0 (Forever 1 2)) ≡ codes "{\"kind\":\"miss\",\"thread\":\"T\",\"each_period\":2,\"before\":1}\n"
unfolding system digits serde_json_on_literals
miss_object = refl

miss_so_far : line_text format.Text system (Miss 0 (SoFar 3)) ≡ codes "miss T: 3 so far\n"
unfolding system digits
miss_so_far = refl

miss_so_far_object : line_text format.Json system (Miss 0 (SoFar 3)) ≡ codes "{\"kind\":\"miss\",\"thread\":\"T\",\"so_far\":3}\n"
unfolding system digits serde_json_on_literals
miss_so_far_object = refl

lost : line_text format.Text system (Lost 0 (Forever 0 1)) ≡ codes "lost N: 1 in each period, 0 before\n"
unfolding system digits
lost = refl

lost_object : line_text format.Json system (Lost 0 (Forever 0 1)) ≡ codes "{\"kind\":\"lost\",\"note\":\"N\",\"each_period\":1,\"before\":0}\n"
unfolding system digits serde_json_on_literals
lost_object = refl

lost_so_far : line_text format.Text system (Lost 0 (SoFar 3)) ≡ codes "lost N: 3 so far\n"
unfolding system digits
lost_so_far = refl

lost_so_far_object : line_text format.Json system (Lost 0 (SoFar 3)) ≡ codes "{\"kind\":\"lost\",\"note\":\"N\",\"so_far\":3}\n"
unfolding system digits serde_json_on_literals
lost_so_far_object = refl

overdue : line_text format.Text system (Overdue 0 25) ≡ codes "overdue T at 25\n"
unfolding system digits
overdue = refl

overdue_object : line_text format.Json system (Overdue 0 25) ≡ codes "{\"kind\":\"overdue\",\"thread\":\"T\",\"moment\":25}\n"
unfolding system digits serde_json_on_literals
overdue_object = refl

never : line_text format.Text system (Never 0 25) ≡ codes "never T up to 25\n"
unfolding system digits
never = refl

never_object : line_text format.Json system (Never 0 25) ≡ codes "{\"kind\":\"never\",\"thread\":\"T\",\"moment\":25}\n"
unfolding system digits serde_json_on_literals
never_object = refl

untaken : line_text format.Text system (Untaken 0 25) ≡ codes "untaken N at 25\n"
unfolding system digits
untaken = refl

untaken_object : line_text format.Json system (Untaken 0 25) ≡ codes "{\"kind\":\"untaken\",\"note\":\"N\",\"moment\":25}\n"
unfolding system digits serde_json_on_literals
untaken_object = refl

-- round 3 of T was activated at 11, and never ends
endless : line_text format.Text system (Endless 0 3 11) ≡ codes "overdue T round 3 activated 11 for ever\n"
unfolding system digits
endless = refl

endless_object : line_text format.Json system (Endless 0 3 11) ≡ codes "{\"kind\":\"overdue\",\"thread\":\"T\",\"number\":3,\"activated\":11}\n"
unfolding system digits serde_json_on_literals
endless_object = refl

inactive : line_text format.Text system (Inactive 0) ≡ codes "never T for ever\n"
unfolding system digits
inactive = refl

inactive_object : line_text format.Json system (Inactive 0) ≡ codes "{\"kind\":\"never\",\"thread\":\"T\"}\n"
unfolding system digits serde_json_on_literals
inactive_object = refl

-- A and B wait for N, and T does not
pool : System
pool =
    record system {
      threads =
          record { name = codes "A"; context = 0; priority = 5; start = 0; rounds = 0; deadline = 10; script = Wait 0 ∷ Compute 1 ∷ [] }
          ∷ record { name = codes "T"; context = 0; priority = 5; start = 0; rounds = 0; deadline = 10; script = Compute 5 ∷ [] }
          ∷ record { name = codes "B"; context = 0; priority = 5; start = 0; rounds = 0; deadline = 10; script = Compute 1 ∷ Wait 0 ∷ [] } ∷ [];
    }

-- nobody ever takes the word 5, which was set at 11
abandoned : line_text format.Text pool (Abandoned 0 5 11) ≡ codes "untaken N by A,B word 5 set 11 for ever\n"
unfolding pool system digits
abandoned = refl

abandoned_object : line_text format.Json pool (Abandoned 0 5 11)
    ≡ codes "{\"kind\":\"untaken\",\"note\":\"N\",\"by\":[\"A\",\"B\"],\"word\":5,\"set\":11}\n"
unfolding pool system digits serde_json_on_literals
abandoned_object = refl

-- the line of a thread, with and without its optional parts
thread : line_text format.Text system (Thread 0 (Some 4) true (Some 13))
    ≡ codes "thread T: greatest response 4, throttled: never, ends no round from 13 on\n"
unfolding system digits
thread = refl

thread_object : line_text format.Json system (Thread 0 (Some 4) true (Some 13))
    ≡ codes "{\"kind\":\"thread\",\"thread\":\"T\",\"greatest\":4,\"throttled\":\"never\",\"ends_no_round_from\":13}\n"
unfolding system digits serde_json_on_literals
thread_object = refl

throttled : line_text format.Text system (Thread 0 (Some 4) false None) ≡ codes "thread T: greatest response 4\n"
unfolding system digits
throttled = refl

throttled_object : line_text format.Json system (Thread 0 (Some 4) false None) ≡ codes "{\"kind\":\"thread\",\"thread\":\"T\",\"greatest\":4}\n"
unfolding system digits serde_json_on_literals
throttled_object = refl

no_round : line_text format.Text system (Thread 0 None false (Some 0)) ≡ codes "thread T: greatest response -, ends no round from 0 on\n"
unfolding system digits
no_round = refl

no_round_object : line_text format.Json system (Thread 0 None false (Some 0)) ≡ codes "{\"kind\":\"thread\",\"thread\":\"T\",\"ends_no_round_from\":0}\n"
unfolding system digits serde_json_on_literals
no_round_object = refl

-- a thread that spins, and never exhausts its budget; and one that does
computes : line_text format.Text system (Computes 0 true) ≡ codes "thread T: computes without end, throttled: never\n"
unfolding system digits
computes = refl

computes_object : line_text format.Json system (Computes 0 true) ≡ codes "{\"kind\":\"computes\",\"thread\":\"T\",\"throttled\":\"never\"}\n"
unfolding system digits serde_json_on_literals
computes_object = refl

computes_throttled : line_text format.Text system (Computes 0 false) ≡ codes "thread T: computes without end\n"
unfolding system digits
computes_throttled = refl

computes_throttled_object : line_text format.Json system (Computes 0 false) ≡ codes "{\"kind\":\"computes\",\"thread\":\"T\"}\n"
unfolding system digits serde_json_on_literals
computes_throttled_object = refl

thread_so_far : line_text format.Text system (ThreadSoFar 0 (Some 9)) ≡ codes "thread T: greatest response 9 so far\n"
unfolding system digits
thread_so_far = refl

thread_so_far_object : line_text format.Json system (ThreadSoFar 0 (Some 9)) ≡ codes "{\"kind\":\"thread_so_far\",\"thread\":\"T\",\"greatest\":9}\n"
unfolding system digits serde_json_on_literals
thread_so_far_object = refl

none_so_far : line_text format.Text system (ThreadSoFar 0 None) ≡ codes "thread T: greatest response - so far\n"
unfolding system digits
none_so_far = refl

none_so_far_object : line_text format.Json system (ThreadSoFar 0 None) ≡ codes "{\"kind\":\"thread_so_far\",\"thread\":\"T\"}\n"
unfolding system digits serde_json_on_literals
none_so_far_object = refl

clean : line_text format.Text system (Clean two) ≡ codes "nothing is ever found\n"
unfolding system digits
clean = refl

clean_object : line_text format.Json system (Clean two) ≡ codes "{\"kind\":\"clean\",\"cores\":\"0 2\"}\n"
unfolding system digits serde_json_on_literals
clean_object = refl

-- all is counted of nine threads, of which seven have a deadline
abbrev totals : ℕ → ℕ → Totals
totals sets repeating = record { sets = sets; repeating = repeating; findings = 0; threads = 9; deadlines = 7 }

sets : line_text format.Text system (Sets (totals 3 2)) ≡ codes "sets 3 repeating 2 findings 0 threads 9 deadlines 7\n"
unfolding system digits
sets = refl

sets_object : line_text format.Json system (Sets (totals 3 2))
    ≡ codes "{\"kind\":\"sets\",\"sets\":3,\"repeating\":2,\"findings\":0,\"threads\":9,\"deadlines\":7}\n"
unfolding system digits serde_json_on_literals
sets_object = refl

-- one after another
all : lines_text format.Text system (Repeats two 13 12 ∷ Clean two ∷ Sets (totals 1 1) ∷ [])
    ≡ codes "cores 0 2: repeats from 13 with period 12\nnothing is ever found\nsets 1 repeating 1 findings 0 threads 9 deadlines 7\n"
unfolding system digits
all = refl

-- an overdue round and an untaken word at 25, if core 0 is reported
at_25 : end_lines system two 25 (λ thread. Some (finding.Overdue thread 3 14 10 11 0 no_ticks)) (λ note. Some (finding.Untaken note 5 12 10 13))
    ≡ Overdue 0 25 ∷ Untaken 0 25 ∷ []
unfolding system
at_25 = refl

of_another_core : end_lines system one 25 (λ thread. Some (finding.Overdue thread 3 14 10 11 0 no_ticks)) (λ note. Some (finding.Untaken note 5 12 10 13)) ≡ []
unfolding system
of_another_core = refl

-- a round that never ends; a thread that is never activated has a line only without such a round
endless_and_abandoned : ever_lines system two (λ thread. Some (finding.Overdue thread 3 14 10 11 0 no_ticks)) (λ thread. Some (finding.Never thread 10))
    (λ note. Some (finding.Untaken note 5 12 10 13)) ≡ Endless 0 3 11 ∷ Abandoned 0 5 13 ∷ []
unfolding system
endless_and_abandoned = refl

never_activated : ever_lines system two (λ thread. None) (λ thread. Some (finding.Never thread 10)) (λ note. None) ≡ Inactive 0 ∷ []
unfolding system
never_activated = refl

-- a round that is overdue at the last moment of the first period, and ends later, has no such line
overdue_once : ever_lines system two (λ thread. None) (λ thread. Some (finding.Overdue thread 3 14 10 11 0 no_ticks)) (λ note. None) ≡ []
unfolding system
overdue_once = refl

-- a script spins if it is the one item `spin`
alone : spins (Spin ∷ []) ≡ true
alone = refl

not_alone : spins (Spin ∷ Spin ∷ []) ≡ false
not_alone = refl

not_at_all : spins (Compute 1000000 ∷ []) ≡ false
not_at_all = refl

-- the lines of a thread that spins and of one that does not, in a set that recurs and so far
told_spinning : thread_told true 0 None true (Some 13) ≡ Computes 0 true
told_spinning = refl

told_not_spinning : thread_told false 0 None true (Some 13) ≡ Thread 0 None true (Some 13)
told_not_spinning = refl

spinning_so_far : so_far_told true 0 None ≡ Computes 0 false
spinning_so_far = refl

not_spinning_so_far : so_far_told false 0 None ≡ ThreadSoFar 0 None
not_spinning_so_far = refl

-- a set is clean if it has no finding
no_finding : clean_lines two [] ≡ Clean two ∷ []
no_finding = refl

one_finding : clean_lines two (Endless 0 3 11 ∷ []) ≡ []
one_finding = refl
