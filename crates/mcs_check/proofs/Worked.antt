-- The output of checks, worked by hand.
use Rattle.std.specs.Prelude.{◌≡◌, ◌++◌, ℕ, Bool, true, false, List, [], ◌∷◌, Some, None, codes, replicate, refl}
use Rattle.std.specs.Fmt.{digits}
use Rattle.serde_json.proofs.OnLiterals.{serde_json_on_literals}
use Rattle.mcs_script.specs.declared.item.Item.TheVariants.{Compute, Wait}
use Rattle.mcs_control.specs.declared.config.Mode.TheVariants as mode
use Rattle.mcs_system.specs.declared.part.NotePart.{NotePart}
use Rattle.mcs_system.specs.declared.part.ThreadPart.{ThreadPart}
use Rattle.mcs_system.specs.System.{System}
use Rattle.mcs_verdict.specs.declared.finding.Finding.{Finding}
use Rattle.mcs_verdict.specs.declared.finding.Finding.TheVariants.{Lost}
use Rattle.mcs_verdict.specs.declared.finding.Found.{Found}
use Rattle.mcs_check_words.specs.declared.asked.Format.TheVariants as format
use Rattle.mcs_check_words.specs.declared.asked.Show.TheVariants as show
use Rattle.mcs_check_run.specs.Allowed.{first_unknown, flags_of, nearest_of, notifications}
use Rattle.mcs_check.specs.Check.{check_text, counts_of}
use Rattle.mcs_check_lines.specs.Counts.{no_counts}
use Rattle.mcs_check_lines.specs.Status.{status_of}
use Rattle.mcs_check_lines.specs.Told.{counts_with, found_lines}
use Rattle.mcs_check.specs.stored.Rows.{row_lines}

abbrev note : List ℕ → NotePart
note name = record { name = name; core = 0; word = 0 }

abbrev thread : ℕ → ThreadPart
thread deadline =
    record { name = codes "A"; context = 0; priority = 5; start = 0; rounds = 1; deadline = deadline; script = Compute 5 ∷ [] }

-- a thread that computes for 5 ticks and gets 2 in 5; nobody uses the notifications
system : ℕ → System
system deadline =
    record {
      cores = 1;
      delay = 1;
      call = 1;
      min_budget = 1;
      contexts = record { name = codes "a"; core = 0; config = record { budget = 2; period = 5; extra = 0 }; mode = mode.Sporadic } ∷ [];
      notes = note (codes "tick") ∷ note (codes "tock") ∷ [];
      threads = thread deadline ∷ [];
      orders = [];
      links = [];
      servers = 0;
      sources = [];
      beats = [];
      chains = [];
    }

abbrev found : ℕ → ℕ → Finding → Found
found moment core finding = record { moment = moment; core = core; finding = finding }

-- The round runs in [0, 2), [5, 7) and [10, 11): with a deadline of 10 it misses it by one tick ..
whole_text : check_text [] (system 10) 20 format.Text show.Findings
    ≡ codes "11 0 miss A round 1 response 11 deadline 10 activated 0 queued 0 ready 0 running 5 throttled 6 blocked 0 server 0\n"
    ++ codes "missed 1 overdue 0 untaken 0 lost 0 never 0 merged 0 allowed 0 unjudged 0 hints 0 threads 1 deadlines 1 judged 1\n"
unfolding row_lines system digits
whole_text = refl

-- .. and with one of 11 it is in time
in_time : check_text [] (system 11) 20 format.Text show.Findings ≡ codes "missed 0 overdue 0 untaken 0 lost 0 never 0 merged 0 allowed 0 unjudged 0 hints 0 threads 1 deadlines 1 judged 1\n"
unfolding row_lines system digits
in_time = refl

-- at horizon 10 it is not ended, its deadline ago
not_ended : check_text [] (system 10) 10 format.Text show.Findings
    ≡ codes "10 0 overdue A round 1 age 10 deadline 10 activated 0 queued 0 ready 0 running 4 throttled 6 blocked 0 server 0\n"
    ++ codes "missed 0 overdue 1 untaken 0 lost 0 never 0 merged 0 allowed 0 unjudged 0 hints 0 threads 1 deadlines 1 judged 1\n"
unfolding row_lines system digits
not_ended = refl

-- at horizon 9 nothing is judged: it was activated at 0, and its deadline is to come
still_open : check_text [] (system 10) 9 format.Text show.Findings
    ≡ codes "9 0 unjudged A deadline 10 activated 0\n"
    ++ codes "missed 0 overdue 0 untaken 0 lost 0 never 0 merged 0 allowed 0 unjudged 1 hints 0 threads 1 deadlines 1 judged 0\n"
unfolding row_lines system digits
still_open = refl

-- exit code 6, and 5 with --strict; at horizon 20 the round with a deadline of 11 is in time
open_codes : (status_of false (counts_of [] (system 10) 9) ≡ 6) × (status_of true (counts_of [] (system 10) 9) ≡ 5)
unfolding system
open_codes = (refl, refl)

code_in_time : status_of true (counts_of [] (system 11) 20) ≡ 0
unfolding system
code_in_time = refl

-- as a job the round is shown whether it is in time or not, and is counted as before
as_a_job : check_text [] (system 10) 20 format.Text show.Jobs
    ≡ codes "11 0 job A round 1 activated 0 begun 0 response 11 queued 0 preemptions 0 ready 0 running 5 throttled 6 blocked 0 server 0\n"
    ++ codes "missed 1 overdue 0 untaken 0 lost 0 never 0 merged 0 allowed 0 unjudged 0 hints 0 threads 1 deadlines 1 judged 1\n"
unfolding system digits
as_a_job = refl

in_time_as_a_job : check_text [] (system 11) 20 format.Text show.Jobs
    ≡ codes "11 0 job A round 1 activated 0 begun 0 response 11 queued 0 preemptions 0 ready 0 running 5 throttled 6 blocked 0 server 0\n"
    ++ codes "missed 0 overdue 0 untaken 0 lost 0 never 0 merged 0 allowed 0 unjudged 0 hints 0 threads 1 deadlines 1 judged 1\n"
unfolding system digits
in_time_as_a_job = refl

-- at horizon 10 no round has ended
no_job : check_text [] (system 10) 10 format.Text show.Jobs ≡ codes "missed 0 overdue 1 untaken 0 lost 0 never 0 merged 0 allowed 0 unjudged 0 hints 0 threads 1 deadlines 1 judged 1\n"
unfolding system digits
no_job = refl

-- In CSV the values that a finding has, and nothing but rows; in JSON an object a line, the counts too.
as_rows : check_text [] (system 10) 20 format.Csv show.Findings
    ≡ codes "moment,core,kind,thread,note,word,number,response,age,deadline,activated,set,queued,ready,running,throttled,blocked,server\n"
    ++ codes "11,0,miss,A,,,1,11,,10,0,,0,0,5,6,0,0\n"
unfolding row_lines system digits
as_rows = refl

job_rows : check_text [] (system 10) 20 format.Csv show.Jobs
    ≡ codes "moment,core,kind,thread,number,activated,begun,response,queued,preemptions,ready,running,throttled,blocked,server\n"
    ++ codes "11,0,job,A,1,0,0,11,0,0,0,5,6,0,0\n"
unfolding system digits
job_rows = refl

as_objects : check_text [] (system 10) 10 format.Json show.Findings
    ≡ codes "{\"moment\":10,\"core\":0,\"kind\":\"overdue\",\"thread\":\"A\",\"number\":1,\"age\":10,\"deadline\":10,\"activated\":0,\"queued\":0,\"ready\":0,"
    ++ codes "\"running\":4,\"throttled\":6,\"blocked\":0,\"server\":0}\n"
    ++ codes "{\"kind\":\"counts\",\"missed\":0,\"overdue\":1,\"untaken\":0,\"lost\":0,\"never\":0,\"merged\":0,\"allowed\":0,\"unjudged\":0,\"hints\":0,"
    ++ codes "\"threads\":1,\"deadlines\":1,\"judged\":1}\n"
unfolding row_lines system digits serde_json_on_literals
as_objects = refl

-- A waits for `tick`, which holds a word at first, and starts at 30: at horizon 10 nobody has taken
-- that word, its deadline ago
late : System
late = record (system 5) {
  notes = record { name = codes "tick"; core = 0; word = 1 } ∷ [];
  threads = record (thread 5) { start = 30; script = Wait 0 ∷ Compute 5 ∷ [] } ∷ [];
}

not_taken : check_text [] late 10 format.Text show.Findings
    ≡ codes "10 0 never A deadline 5\n10 0 untaken tick by A word 1 age 10 deadline 5 set 0\n"
    ++ codes "hint note tick is waited on and no script signals it\n"
    ++ codes "missed 0 overdue 0 untaken 1 lost 0 never 1 merged 0 allowed 0 unjudged 0 hints 1 threads 1 deadlines 1 judged 1\n"
unfolding row_lines late system digits
not_taken = refl

-- a tick before its deadline it is not told
not_taken_yet : check_text [] late 4 format.Text show.Findings
    ≡ codes "4 0 never A deadline 5\n"
    ++ codes "hint note tick is waited on and no script signals it\n"
    ++ codes "missed 0 overdue 0 untaken 0 lost 0 never 1 merged 0 allowed 0 unjudged 0 hints 1 threads 1 deadlines 1 judged 0\n"
unfolding row_lines late system digits
not_taken_yet = refl

-- There are two lost signals. The one of `tick` is allowed: it has no line, and is counted
-- separately.
abbrev two_lost : List Found
two_lost = found 5 0 (Lost 0 1) ∷ found 6 0 (Lost 1 1) ∷ []

abbrev flags : List (List ℕ) → List Bool
flags names = flags_of names (note (codes "tick") ∷ note (codes "tock") ∷ [])

one_is_told : found_lines format.Text (system 0) (flags (codes "tick" ∷ [])) two_lost ≡ codes "6 0 lost tock word 1\n"
unfolding system digits
one_is_told = refl

one_is_allowed : counts_with (flags (codes "tick" ∷ [])) two_lost 0 0 no_counts ≡ record no_counts { lost = 1; allowed = 1 }
one_is_allowed = refl

-- The first name that no notification has. If there is no notification, there is no nearest name.
known : first_unknown (note (codes "tick") ∷ note (codes "tock") ∷ []) (codes "tock" ∷ codes "tick" ∷ []) ≡ None
known = refl

unknown : first_unknown (note (codes "tick") ∷ note (codes "tock") ∷ []) (codes "tock" ∷ codes "tack" ∷ codes "tuck" ∷ []) ≡ Some (codes "tack")
unknown = refl

-- A server is no notification.
server_apart : notifications (record (system 10) { servers = 1 }) ≡ note (codes "tick") ∷ []
unfolding system
server_apart = refl

none_near : nearest_of [] (codes "tick") ≡ None
none_near = refl

-- A text of 64 bytes may be a name with slips in it, and one of 65 is none.
near_to_short : nearest_of (note (codes "tick") ∷ []) (replicate 64 97) ≡ Some (codes "tick")
near_to_short = refl

none_near_to_long : nearest_of (note (codes "tick") ∷ []) (replicate 65 97) ≡ None
none_near_to_long = refl
