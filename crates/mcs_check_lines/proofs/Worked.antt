-- Lines, worked by hand.
use Rattle.std.specs.Prelude.{◌≡◌, ◌++◌, ℕ, List, [], ◌∷◌, Some, None, codes, map, refl}
use Rattle.std.specs.Fmt.{digits}
use Rattle.serde_json.proofs.OnLiterals.{serde_json_on_literals}
use Rattle.mcs_script.specs.declared.item.Item.{Item}
use Rattle.mcs_script.specs.declared.item.Item.TheVariants.{Compute, Wait}
use Rattle.mcs_control.specs.declared.config.Mode.TheVariants as mode
use Rattle.mcs_system.specs.declared.part.NotePart.{NotePart}
use Rattle.mcs_system.specs.declared.part.ThreadPart.{ThreadPart}
use Rattle.mcs_system.specs.System.{System}
use Rattle.mcs_hints.specs.declared.hint.Hint.TheVariants.{NoThread, NoDeadline, Unsignalled, Unawaited, Unhandled, Unheard, Inverted, Unbound, Unused, Overcommitted}
use Rattle.mcs_verdict.specs.declared.finding.Finding.{Finding}
use Rattle.mcs_verdict.specs.declared.finding.Finding.TheVariants.{Overdue, Untaken, Lost, Never}
use Rattle.mcs_verdict.specs.declared.finding.Found.{Found}
use Rattle.mcs_verdict.specs.declared.job.Job.{Job}
use Rattle.mcs_verdict.specs.declared.standing.Stood.{Stood}
use Rattle.mcs_check_words.specs.declared.asked.Format.TheVariants as format
use Rattle.mcs_check_words.specs.declared.asked.Show.TheVariants as show
use Rattle.mcs_check_lines.specs.declared.unjudged.Unjudged.{Unjudged}
use Rattle.mcs_check_lines.specs.Fields.{found_fields, job_fields}
use Rattle.mcs_check_lines.specs.Formats.{column_names, found_line, hint_line}
use Rattle.mcs_check_lines.specs.Lines.{found_text, hint_text, job_text}
use Rattle.mcs_check_lines.specs.Unjudged.{unjudged_fields, unjudged_line, unjudged_text}

abbrev note : List ℕ → NotePart
note name = record { name = name; core = 0; word = 0 }

abbrev thread : ℕ → ThreadPart
thread deadline =
    record { name = codes "A"; context = 0; priority = 5; start = 0; rounds = 1; deadline = deadline; script = Compute 5 ∷ [] }

-- a thread that computes for 5 ticks and gets 2 in 5; nobody uses the notifications
system : ℕ → System
system deadline =
    record {
      cores = 1;
      delay = 1;
      call = 1;
      min_budget = 1;
      contexts = record { name = codes "a"; core = 0; config = record { budget = 2; period = 5; extra = 0 }; mode = mode.Sporadic } ∷ [];
      notes = note (codes "tick") ∷ note (codes "tock") ∷ [];
      threads = thread deadline ∷ [];
      orders = [];
      links = [];
      servers = 0;
      sources = record { name = codes "nic"; note = 1; badge = 4 } ∷ [];
      beats = [];
      chains = [];
    }

-- ready, running, throttled, blocked, at a server
abbrev parts : ℕ → ℕ → ℕ → ℕ → ℕ → Stood
parts ready running throttled blocked server =
    record { pending = 0; ready = ready; running = running; throttled = throttled; blocked = blocked; server = server; done = 0 }

abbrev found : ℕ → ℕ → Finding → Found
found moment core finding = record { moment = moment; core = core; finding = finding }

lost_row : found_line format.Csv (system 0) (found 12 3 (Lost 1 6)) ≡ codes "12,3,lost,,tock,6,,,,,,,,,,,,\n"
unfolding system digits
lost_row = refl

never_object : found_line format.Json (system 0) (found 40 0 (Never 0 7))
    ≡ codes "{\"moment\":40,\"core\":0,\"kind\":\"never\",\"thread\":\"A\",\"deadline\":7}\n"
unfolding system digits serde_json_on_literals
never_object = refl

unbound_object : hint_line format.Json (system 0) (Unbound 0) ≡ codes "{\"kind\":\"hint\",\"hint\":\"unbound\",\"context\":\"a\"}\n"
unfolding system serde_json_on_literals
unbound_object = refl

-- all rows of CSV have the same columns, whatever is found
found_columns : (system : System) (f : Found) → map (λ field. field.0) (found_fields system f) ≡ column_names show.Findings
found_columns system f = refl

job_columns : (system : System) (j : Job) → map (λ field. field.0) (job_fields system j) ≡ column_names show.Jobs
job_columns system j = refl

-- a round that was activated 4 ticks before it began, and preempted twice
abbrev called : Job
called = record {
  thread = 0;
  number = 3;
  activated = 30;
  begun = 34;
  ended = 50;
  response = 20;
  queued = 4;
  preemptions = 2;
  stood = parts 1 2 3 10 0;
}

job_line : job_text (system 0) called
    ≡ codes "50 0 job A round 3 activated 30 begun 34 response 20 queued 4 preemptions 2 ready 1 running 2 throttled 3 blocked 10 server 0\n"
unfolding system digits
job_line = refl

lost_line : found_text (system 0) (found 12 3 (Lost 1 6)) ≡ codes "12 3 lost tock word 6\n"
unfolding system digits
lost_line = refl

never_line : found_text (system 0) (found 40 0 (Never 0 7)) ≡ codes "40 0 never A deadline 7\n"
unfolding system digits
never_line = refl

-- a round that was activated 4 ticks before the round before it ended, and that waited for a taken
-- server for a tick
queued_line : found_text (system 0) (found 50 1 (Overdue 0 3 20 7 30 4 (parts 1 2 3 9 1)))
    ≡ codes "50 1 overdue A round 3 age 20 deadline 7 activated 30 queued 4 ready 1 running 2 throttled 3 blocked 9 server 1\n"
unfolding system digits
queued_line = refl

queued_row : found_line format.Csv (system 0) (found 50 1 (Overdue 0 3 20 7 30 4 (parts 1 2 3 9 1)))
    ≡ codes "50,1,overdue,A,,,3,,20,7,30,,4,1,2,3,9,1\n"
unfolding system digits
queued_row = refl

queued_object : found_line format.Json (system 0) (found 50 1 (Overdue 0 3 20 7 30 4 (parts 1 2 3 9 1)))
    ≡ codes "{\"moment\":50,\"core\":1,\"kind\":\"overdue\",\"thread\":\"A\",\"number\":3,\"age\":20,\"deadline\":7,\"activated\":30,"
    ++ codes "\"queued\":4,\"ready\":1,\"running\":2,\"throttled\":3,\"blocked\":9,\"server\":1}\n"
unfolding system digits serde_json_on_literals
queued_object = refl

-- two workers wait for the same notification, the second one not first; nobody takes the word of 10
worker : List ℕ → List Item → ThreadPart
worker name script = record { name = name; context = 0; priority = 5; start = 0; rounds = 0; deadline = 5; script = script }

pool : System
pool = record (system 0) {
  threads = worker (codes "Worker") (Wait 1 ∷ Compute 9 ∷ []) ∷ worker (codes "Clock") (Compute 1 ∷ Wait 0 ∷ Compute 1 ∷ [])
      ∷ worker (codes "Other") (Compute 1 ∷ Wait 1 ∷ Compute 1 ∷ []) ∷ [];
}

untaken_line : found_text pool (found 31 0 (Untaken 1 6 21 5 10)) ≡ codes "31 0 untaken tock by Worker,Other word 6 age 21 deadline 5 set 10\n"
unfolding pool worker system digits
untaken_line = refl

untaken_row : found_line format.Csv pool (found 31 0 (Untaken 1 6 21 5 10)) ≡ codes "31,0,untaken,,tock,6,,,21,5,,10,,,,,,\n"
unfolding pool worker system digits
untaken_row = refl

untaken_object : found_line format.Json pool (found 31 0 (Untaken 1 6 21 5 10))
    ≡ codes "{\"moment\":31,\"core\":0,\"kind\":\"untaken\",\"note\":\"tock\",\"by\":[\"Worker\",\"Other\"],\"word\":6,\"age\":21,\"deadline\":5,\"set\":10}\n"
unfolding pool worker system digits serde_json_on_literals
untaken_object = refl

unsignalled_line : hint_text (system 0) (Unsignalled 0) ≡ codes "hint note tick is waited on and no script signals it\n"
unfolding system
unsignalled_line = refl

unawaited_line : hint_text (system 0) (Unawaited 0 1) ≡ codes "hint source nic interrupts on tock and no script waits on it\n"
unfolding system
unawaited_line = refl

unhandled_line : hint_text (system 0) (Unhandled 0 1 4) ≡ codes "hint source nic interrupts on tock with badge 4 and no handler takes it\n"
unfolding system digits
unhandled_line = refl

unheard_line : hint_text (system 0) (Unheard 0 1 8) ≡ codes "hint thread A signals tock with badge 8 and no handler takes it\n"
unfolding system digits
unheard_line = refl

inverted_line : hint_text (system 0) (Inverted 0 1 40 50) ≡ codes "hint thread A calls tock of priority 40 at priority 50\n"
unfolding system digits
inverted_line = refl

unawaited_object : hint_line format.Json (system 0) (Unawaited 0 1)
    ≡ codes "{\"kind\":\"hint\",\"hint\":\"unawaited\",\"source\":\"nic\",\"note\":\"tock\"}\n"
unfolding system serde_json_on_literals
unawaited_object = refl

unhandled_object : hint_line format.Json (system 0) (Unhandled 0 1 4)
    ≡ codes "{\"kind\":\"hint\",\"hint\":\"unhandled\",\"source\":\"nic\",\"note\":\"tock\",\"badge\":4}\n"
unfolding system digits serde_json_on_literals
unhandled_object = refl

unheard_object : hint_line format.Json (system 0) (Unheard 0 1 8)
    ≡ codes "{\"kind\":\"hint\",\"hint\":\"unheard\",\"thread\":\"A\",\"note\":\"tock\",\"badge\":8}\n"
unfolding system digits serde_json_on_literals
unheard_object = refl

inverted_object : hint_line format.Json (system 0) (Inverted 0 1 40 50)
    ≡ codes "{\"kind\":\"hint\",\"hint\":\"inverted\",\"thread\":\"A\",\"server\":\"tock\",\"priority\":40,\"caller\":50}\n"
unfolding system digits serde_json_on_literals
inverted_object = refl

unbound_line : hint_text (system 0) (Unbound 0) ≡ codes "hint context a has no thread\n"
unfolding system
unbound_line = refl

overcommitted_line : hint_text (system 0) (Overcommitted 2 1000001) ≡ codes "hint core 2 grants 1000001 of 1000000\n"
unfolding system digits
overcommitted_line = refl

no_thread_line : hint_text (system 0) NoThread ≡ codes "hint no thread\n"
no_thread_line = refl

no_deadline_line : hint_text (system 0) NoDeadline ≡ codes "hint no thread has a deadline\n"
no_deadline_line = refl

unused_line : hint_text (system 0) (Unused 2) ≡ codes "hint core 2 has no thread\n"
unfolding digits
unused_line = refl

unused_object : hint_line format.Json (system 0) (Unused 2) ≡ codes "{\"kind\":\"hint\",\"hint\":\"unused\",\"core\":2}\n"
unfolding digits serde_json_on_literals
unused_object = refl

-- the only round of A is under way since 10, 5 ticks before its deadline
abbrev open_round : Unjudged
open_round = record { moment = 12; core = 0; thread = 0; deadline = 7; activated = Some 10 }

unjudged_in_words : unjudged_text (system 0) open_round ≡ codes "12 0 unjudged A deadline 7 activated 10\n"
unfolding system digits
unjudged_in_words = refl

unjudged_row : unjudged_line format.Csv (system 0) open_round ≡ codes "12,0,unjudged,A,,,,,,7,10,,,,,,,\n"
unfolding system digits
unjudged_row = refl

unjudged_object : unjudged_line format.Json (system 0) open_round
    ≡ codes "{\"moment\":12,\"core\":0,\"kind\":\"unjudged\",\"thread\":\"A\",\"deadline\":7,\"activated\":10}\n"
unfolding system digits serde_json_on_literals
unjudged_object = refl

-- a spare worker: no round of it is under way
abbrev spare : Unjudged
spare = record { moment = 12; core = 0; thread = 0; deadline = 7; activated = None }

spare_in_words : unjudged_text (system 0) spare ≡ codes "12 0 unjudged A deadline 7 activated -\n"
unfolding system digits
spare_in_words = refl

spare_row : unjudged_line format.Csv (system 0) spare ≡ codes "12,0,unjudged,A,,,,,,7,,,,,,,,\n"
unfolding system digits
spare_row = refl

spare_object : unjudged_line format.Json (system 0) spare
    ≡ codes "{\"moment\":12,\"core\":0,\"kind\":\"unjudged\",\"thread\":\"A\",\"deadline\":7}\n"
unfolding system digits serde_json_on_literals
spare_object = refl

unjudged_columns : (system : System) (u : Unjudged) → map (λ field. field.0) (unjudged_fields system u) ≡ column_names show.Findings
unjudged_columns system u = refl
