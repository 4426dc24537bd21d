-- The lines of chains, worked by hand.
use Rattle.std.specs.Prelude.{◌≡◌, ◌++◌, ℕ, [], ◌∷◌, Some, None, codes, refl}
use Rattle.std.specs.Fmt.{digits}
use Rattle.serde_json.proofs.OnLiterals.{serde_json_on_literals}
use Rattle.mcs_control.specs.declared.config.Mode.TheVariants as mode
use Rattle.mcs_system.specs.System.{System}
use Rattle.mcs_table.specs.declared.figures.Margin.TheVariants.{Over}
use Rattle.mcs_verdict.specs.declared.job.Job.{Job}
use Rattle.mcs_hints.specs.declared.hint.Hint.TheVariants.{Unreached}
use Rattle.mcs_chain.specs.declared.answer.Answer.{Answer}
use Rattle.mcs_chain.specs.declared.figures.Figures.{Figures}
use Rattle.mcs_chain.specs.declared.finding.Finding.{Finding}
use Rattle.mcs_chain.specs.declared.finding.Finding.TheVariants.{Slow, Unanswered}
use Rattle.mcs_chain.specs.declared.finding.Found.{Found}
use Rattle.mcs_check_words.specs.declared.asked.Format.TheVariants as format
use Rattle.mcs_check_words.specs.declared.asked.Show.TheVariants as show
use Rattle.mcs_check_lines.specs.declared.checked.Scope.{Scope}
use Rattle.mcs_check_lines.specs.declared.counts.Counts.{Counts}
use Rattle.mcs_check_lines.specs.Answers.{answer_line}
use Rattle.mcs_check_lines.specs.Chains.{chain_found_line, chain_line, with_placed}
use Rattle.mcs_check_lines.specs.Counts.{no_counts}
use Rattle.mcs_check_lines.specs.Formats.{counts_line, head_text, hint_line, job_line}

-- a file with the chain e
system : System
system =
    record {
      cores = 2;
      delay = 2;
      call = 1;
      min_budget = 1;
      contexts = [];
      notes = [];
      threads = record { name = codes "C"; context = 0; priority = 5; start = 0; rounds = 0; deadline = 0; script = [] } ∷ [];
      orders = [];
      links = [];
      servers = 0;
      sources = record { name = codes "s"; note = 0; badge = 1 } ∷ [];
      beats = [];
      chains = record { name = codes "e"; source = 0; thread = 0; badges = 0; deadline = 8 } ∷ [];
    }

-- no signal can complete it
unreached_text : hint_line format.Text system (Unreached 0 0 0) ≡ codes "hint chain e: no signal leads from s to C\n"
unfolding system
unreached_text = refl

unreached_object : hint_line format.Json system (Unreached 0 0 0)
    ≡ codes "{\"kind\":\"hint\",\"hint\":\"unreached\",\"chain\":\"e\",\"source\":\"s\",\"thread\":\"C\"}\n"
unfolding system serde_json_on_literals
unreached_object = refl

unreached_row : hint_line format.Csv system (Unreached 0 0 0) ≡ []
unreached_row = refl

abbrev found : ℕ → ℕ → Finding → Found
found moment core finding = record { moment = moment; core = core; chain = 0; finding = finding }

-- an interrupt of 3 is answered at 12, a tick too late ..
slow_text : chain_found_line format.Text system (found 12 1 (Slow 9 8 3)) ≡ codes "12 1 slow e latency 9 deadline 8 origin 3\n"
unfolding system digits
slow_text = refl

slow_row : chain_found_line format.Csv system (found 12 1 (Slow 9 8 3)) ≡ codes "12,1,slow,,,,,,,,,,,,,,,,e,9,8,3\n"
unfolding system digits
slow_row = refl

slow_object : chain_found_line format.Json system (found 12 1 (Slow 9 8 3))
    ≡ codes "{\"moment\":12,\"core\":1,\"kind\":\"slow\",\"chain\":\"e\",\"latency\":9,\"deadline\":8,\"origin\":3}\n"
unfolding system digits serde_json_on_literals
slow_object = refl

-- .. and one of 13 is not answered up to 25
unanswered_text : chain_found_line format.Text system (found 25 1 (Unanswered 8 13)) ≡ codes "25 1 unanswered e deadline 8 origin 13\n"
unfolding system digits
unanswered_text = refl

unanswered_row : chain_found_line format.Csv system (found 25 1 (Unanswered 8 13)) ≡ codes "25,1,unanswered,,,,,,,,,,,,,,,,e,,8,13\n"
unfolding system digits
unanswered_row = refl

-- the same, where C is on core 1
answering : System
answering =
    record {
      cores = 2;
      delay = 2;
      call = 1;
      min_budget = 1;
      contexts = record { name = codes "c"; core = 1; config = record { budget = 9; period = 20; extra = 0 }; mode = mode.Sporadic } ∷ [];
      notes = [];
      threads = record { name = codes "C"; context = 0; priority = 5; start = 0; rounds = 0; deadline = 0; script = [] } ∷ [];
      orders = [];
      links = [];
      servers = 0;
      sources = [];
      beats = [];
      chains = record { name = codes "e"; source = 0; thread = 0; badges = 0; deadline = 8 } ∷ [];
    }

-- the columns of findings
columns : head_text format.Csv show.Findings system
    ≡ codes "moment,core,kind,thread,note,word,number,response,age,deadline,activated,set,queued,ready,running,throttled,blocked,server"
    ++ codes ",chain,latency,deadline,origin\n"
unfolding system
columns = refl

-- one answer, a tick above the deadline, and none
abbrev one_answer : Figures
one_answer =
    record {
      interrupts = 2;
      answers = 1;
      least = Some 9;
      greatest = Some 9;
      total = 9;
      fiftieth = Some 9;
      ninetieth = Some 9;
      ninety_ninth = Some 9;
      deadline = 8;
      margin = Some (Over 1);
    }

figures_text : chain_line format.Text system 0 one_answer
    ≡ codes "chain e interrupts 2 answers 1 least 9 greatest 9 total 9 p50 9 p90 9 p99 9 deadline 8 margin -1\n"
unfolding system digits
figures_text = refl

figures_row : chain_line format.Csv system 0 one_answer ≡ codes "chain,,,,,,,,,,,,,,,,,,,,,,,,,,e,2,1,9,9,9,9,9,9,8,-1\n"
unfolding system digits
figures_row = refl

figures_object : chain_line format.Json system 0 one_answer
    ≡ codes "{\"kind\":\"chain\",\"chain\":\"e\",\"interrupts\":2,\"answers\":1,\"least\":9,\"greatest\":9,\"total\":9,"
    ++ codes "\"p50\":9,\"p90\":9,\"p99\":9,\"deadline\":8,\"margin\":-1}\n"
unfolding system digits serde_json_on_literals
figures_object = refl

-- the columns of the table
table_columns : head_text format.Csv show.Table system
    ≡ codes "kind,thread,core,priority,budget,period,granted,used,rounds,greatest,p50,p90,p99,deadline,margin,missed,late,lost,merged"
    ++ codes ",ticks_pending,ticks_ready,ticks_running,ticks_throttled,ticks_blocked,ticks_server,ticks_done"
    ++ codes ",chain,interrupts,answers,least,greatest,total,p50,p90,p99,deadline,margin\n"
unfolding system
table_columns = refl

-- the columns of jobs
job_columns : head_text format.Csv show.Jobs system
    ≡ codes "moment,core,kind,thread,number,activated,begun,response,queued,preemptions,ready,running,throttled,blocked,server"
    ++ codes ",chain,latency,deadline,origin\n"
unfolding system
job_columns = refl

-- the job of C that answers the interrupt of 3
abbrev job : Job
job =
    record {
      thread = 0;
      number = 2;
      activated = 8;
      begun = 8;
      ended = 12;
      response = 4;
      queued = 0;
      preemptions = 1;
      stood = record { pending = 0; ready = 1; running = 3; throttled = 0; blocked = 0; server = 0; done = 0 };
    }

job_row : job_line format.Csv answering job ≡ codes "12,1,job,C,2,8,8,4,0,1,1,3,0,0,0,,,,\n"
unfolding answering digits
job_row = refl

-- a tick above the deadline of the chain
abbrev answer : Answer
answer = record { moment = 12; core = 1; chain = 0; thread = 0; number = 2; origin = 3; latency = 9; deadline = 8 }

answer_words : answer_line format.Text system answer ≡ codes "12 1 answer e round 2 origin 3 latency 9 deadline 8\n"
unfolding system digits
answer_words = refl

answer_row : answer_line format.Csv system answer ≡ codes "12,1,answer,C,2,,,,,,,,,,,e,9,8,3\n"
unfolding system digits
answer_row = refl

answer_object : answer_line format.Json system answer
    ≡ codes "{\"moment\":12,\"core\":1,\"kind\":\"answer\",\"thread\":\"C\",\"number\":2,\"chain\":\"e\",\"latency\":9,\"deadline\":8,\"origin\":3}\n"
unfolding system digits serde_json_on_literals
answer_object = refl

-- of a chain without a deadline
no_deadline_words : answer_line format.Text system (record answer { deadline = 0 }) ≡ codes "12 1 answer e round 2 origin 3 latency 9\n"
unfolding system digits
no_deadline_words = refl

no_deadline_row : answer_line format.Csv system (record answer { deadline = 0 }) ≡ codes "12,1,answer,C,2,,,,,,,,,,,e,9,,3\n"
unfolding system digits
no_deadline_row = refl

-- the counts
abbrev counts : Counts
counts = record no_counts { missed = 2; hints = 1 }

abbrev scope : Scope
scope = record { unjudged = 4; threads = 9; deadlines = 8; judged = 50 }

counts_text : counts_line format.Text (record { counts = counts; scope = scope; chains = Some (record { slow = 3; unanswered = 1 }) })
    ≡ codes "missed 2 overdue 0 untaken 0 lost 0 never 0 merged 0 allowed 0 unjudged 4 hints 1 threads 9 deadlines 8 judged 50 slow 3 unanswered 1\n"
unfolding digits
counts_text = refl

no_chain_text : counts_line format.Text (record { counts = counts; scope = scope; chains = None })
    ≡ codes "missed 2 overdue 0 untaken 0 lost 0 never 0 merged 0 allowed 0 unjudged 4 hints 1 threads 9 deadlines 8 judged 50\n"
unfolding digits
no_chain_text = refl

-- Of the lines of 5, those of findings come first; then those of the first chain, then those of the second.
in_place : with_placed ((5, codes "a") ∷ (5, codes "b") ∷ (7, codes "c") ∷ []) ((5, codes "d") ∷ (8, codes "e") ∷ (4, codes "f") ∷ (5, codes "g") ∷ (6, codes "h") ∷ [])
    ≡ codes "fabdghce"
in_place = refl
