-- The lines of figures, worked by hand.
use Rattle.std.specs.Prelude.{◌≡◌, ◌++◌, ℕ, [], ◌∷◌, Option, Some, None, codes, map, refl}
use Rattle.std.specs.Fmt.{digits}
use Rattle.serde_json.proofs.OnLiterals.{serde_json_on_literals}
use Rattle.mcs_script.specs.declared.item.Item.TheVariants.{Compute}
use Rattle.mcs_control.specs.declared.config.Mode.TheVariants as mode
use Rattle.mcs_system.specs.System.{System}
use Rattle.mcs_table.specs.declared.figures.Figures.{Figures}
use Rattle.mcs_table.specs.declared.figures.Margin.{Margin}
use Rattle.mcs_table.specs.declared.figures.Margin.TheVariants.{Left, Over}
use Rattle.mcs_table.specs.declared.figures.Rounds.{Rounds}
use Rattle.mcs_table.specs.declared.figures.Signals.{Signals}
use Rattle.mcs_check_words.specs.declared.asked.Format.TheVariants as format
use Rattle.mcs_check_words.specs.declared.asked.Show.TheVariants as show
use Rattle.mcs_check_lines.specs.Figures.{context_line, thread_fields, thread_line}
use Rattle.mcs_check_lines.specs.Formats.{column_names}

-- a thread with 2 ticks in 5
system : System
system =
    record {
      cores = 1;
      delay = 1;
      call = 1;
      min_budget = 1;
      contexts = record { name = codes "a"; core = 0; config = record { budget = 2; period = 5; extra = 0 }; mode = mode.Sporadic } ∷ [];
      notes = [];
      threads =
          record { name = codes "A"; context = 0; priority = 5; start = 0; rounds = 1; deadline = 10; script = Compute 5 ∷ [] } ∷ [];
      orders = [];
      links = [];
      servers = 0;
      sources = [];
      beats = [];
      chains = [];
    }

-- the figures of 20 ticks in which the thread ran 5, with these figures of its rounds
abbrev came_to : ℕ → Rounds → Option Margin → Option Signals → Figures
came_to deadline rounds margin signals =
    record {
      core = 0;
      priority = 5;
      share = record { budget = 2; period = 5; granted = 400000; used = 250000 };
      rounds = rounds;
      deadline = deadline;
      margin = margin;
      signals = signals;
      stood = record { pending = 0; ready = 0; running = 5; throttled = 6; blocked = 0; server = 0; done = 9 };
    }

-- one round, whose response is a tick above the deadline
abbrev one_round : Rounds
one_round =
    record { ended = 1; greatest = Some 11; fiftieth = Some 11; ninetieth = Some 11; ninety_ninth = Some 11; missed = 1; late = 1 }

abbrev missed : Figures
missed = came_to 10 one_round (Some (Over 1)) None

missed_text : thread_line format.Text system 0 missed
    ≡ codes "thread A core 0 priority 5 budget 2 period 5 granted 400000 used 250000 rounds 1 greatest 11 p50 11 p90 11 p99 11 deadline 10"
    ++ codes " margin -1 missed 1 late 1 lost - merged - ticks_pending 0 ticks_ready 0 ticks_running 5 ticks_throttled 6 ticks_blocked 0"
    ++ codes " ticks_server 0 ticks_done 9\n"
unfolding system digits
missed_text = refl

missed_row : thread_line format.Csv system 0 missed
    ≡ codes "thread,A,0,5,2,5,400000,250000,1,11,11,11,11,10,-1,1,1,,,0,0,5,6,0,0,9\n"
unfolding system digits
missed_row = refl

-- three rounds of different responses, one missed and none late, and signals
abbrev three_rounds : Rounds
three_rounds =
    record { ended = 3; greatest = Some 9; fiftieth = Some 4; ninetieth = Some 8; ninety_ninth = Some 9; missed = 1; late = 0 }

early_text : thread_line format.Text system 0 (came_to 12 three_rounds (Some (Left 3)) (Some (record { lost = 2; merged = 1 })))
    ≡ codes "thread A core 0 priority 5 budget 2 period 5 granted 400000 used 250000 rounds 3 greatest 9 p50 4 p90 8 p99 9 deadline 12"
    ++ codes " margin 3 missed 1 late 0 lost 2 merged 1 ticks_pending 0 ticks_ready 0 ticks_running 5 ticks_throttled 6 ticks_blocked 0"
    ++ codes " ticks_server 0 ticks_done 9\n"
unfolding system digits
early_text = refl

-- no round ended, and there is no deadline
abbrev no_round : Rounds
no_round = record { ended = 0; greatest = None; fiftieth = None; ninetieth = None; ninety_ninth = None; missed = 0; late = 0 }

no_round_object : thread_line format.Json system 0 (came_to 0 no_round None None)
    ≡ codes "{\"kind\":\"thread\",\"thread\":\"A\",\"core\":0,\"priority\":5,\"budget\":2,\"period\":5,\"granted\":400000,"
    ++ codes "\"used\":250000,\"rounds\":0,\"missed\":0,\"late\":0,\"ticks_pending\":0,\"ticks_ready\":0,\"ticks_running\":5,"
    ++ codes "\"ticks_throttled\":6,\"ticks_blocked\":0,\"ticks_server\":0,\"ticks_done\":9}\n"
unfolding system digits serde_json_on_literals
no_round_object = refl

unused_text : context_line format.Text system 0 (Some 3) ≡ codes "context a unused 3\n"
unfolding system digits
unused_text = refl

ordered_text : context_line format.Text system 0 None ≡ codes "context a unused -\n"
unfolding system digits
ordered_text = refl

unused_object : context_line format.Json system 0 (Some 3) ≡ codes "{\"kind\":\"context\",\"context\":\"a\",\"unused\":3}\n"
unfolding system digits serde_json_on_literals
unused_object = refl

unused_row : context_line format.Csv system 0 (Some 3) ≡ []
unused_row = refl

table_columns : (own : System) (thread : ℕ) (f : Figures) → map (λ field. field.0) (thread_fields own thread f) ≡ column_names show.Table
table_columns own thread f = refl
