-- The parts of a worked system, and its rows, in one line each.
use Rattle.std.specs.Prelude.{ℕ, List, []}
use Rattle.mcs_ticks.specs.declared.row.Row.{Row}
use Rattle.mcs_ticks.specs.declared.row.What.{What}
use Rattle.mcs_control.specs.declared.config.Mode.TheVariants.{Sporadic, Bandwidth}
use Rattle.mcs_control.specs.declared.config.Order.{Order}
use Rattle.mcs_script.specs.declared.item.Item.{Item}
use Rattle.mcs_system.specs.declared.part.Beat.{Beat}
use Rattle.mcs_system.specs.declared.part.ChainPart.{ChainPart}
use Rattle.mcs_system.specs.declared.part.ContextPart.{ContextPart}
use Rattle.mcs_system.specs.declared.part.Link.{Link}
use Rattle.mcs_system.specs.declared.part.NotePart.{NotePart}
use Rattle.mcs_system.specs.declared.part.SourcePart.{SourcePart}
use Rattle.mcs_system.specs.declared.part.ThreadPart.{ThreadPart}
use Rattle.mcs_system.specs.System.{System}

-- a context: its name, core, budget, period, and extra refills
abbrev pub context : List ℕ → ℕ → ℕ → ℕ → ℕ → ContextPart
context name core budget period extra =
    record { name = name; core = core; config = record { budget = budget; period = period; extra = extra }; mode = Sporadic }

-- a context in bandwidth mode
abbrev pub bandwidth_context : List ℕ → ℕ → ℕ → ℕ → ℕ → ContextPart
bandwidth_context name core budget period extra =
    record { name = name; core = core; config = record { budget = budget; period = period; extra = extra }; mode = Bandwidth }

-- a notification: its name and its home
abbrev pub note : List ℕ → ℕ → NotePart
note name core = record { name = name; core = core; word = 0 }

-- a notification with a word that it holds at first
abbrev pub note_with : List ℕ → ℕ → ℕ → NotePart
note_with name core word = record { name = name; core = core; word = word }

-- a server, which is free: its name and its home
abbrev pub server : List ℕ → ℕ → NotePart
server name core = note_with name core 1

-- a thread: its name, context, priority, start, rounds, deadline, and script
abbrev pub thread : List ℕ → ℕ → ℕ → ℕ → ℕ → ℕ → List Item → ThreadPart
thread name context priority start rounds deadline script =
    record {
      name = name;
      context = context;
      priority = priority;
      start = start;
      rounds = rounds;
      deadline = deadline;
      script = script;
    }

-- an order: its moment, context, and the new budget, period and extra refills
abbrev pub order : ℕ → ℕ → ℕ → ℕ → ℕ → Order
order moment context budget period extra =
    record { moment = moment; context = context; config = record { budget = budget; period = period; extra = extra } }

-- a link: its maker, its home, and the delay of a signal from the one to the other
abbrev pub link : ℕ → ℕ → ℕ → Link
link maker home delay = record { maker = maker; home = home; delay = delay }

-- a source: its name, the notification on which it posts, and the badge
abbrev pub source : List ℕ → ℕ → ℕ → SourcePart
source name note badge = record { name = name; note = note; badge = badge }

-- dates of a source: its number, the first one, the period, and their number, 0 for no end
abbrev pub beat : ℕ → ℕ → ℕ → ℕ → Beat
beat source first period count = record { source = source; first = first; period = period; count = count }

-- a chain: its name, source and thread, and the badges and deadline of its answers
abbrev pub chain : List ℕ → ℕ → ℕ → ℕ → ℕ → ChainPart
chain name source thread badges deadline = record { name = name; source = source; thread = thread; badges = badges; deadline = deadline }

-- a row: its moment, its core, and its event
abbrev pub at : ℕ → ℕ → What → Row
at moment core what = record { moment = moment; core = core; what = what }

-- a system of one core, on which each call costs a tick
abbrev pub one_core : List ContextPart → List NotePart → List ThreadPart → List Order → System
one_core contexts notes threads orders =
    record {
      cores = 1;
      delay = 1;
      call = 1;
      min_budget = 1;
      contexts = contexts;
      notes = notes;
      threads = threads;
      orders = orders;
      links = [];
      servers = 0;
      sources = [];
      beats = [];
      chains = [];
    }

-- a system of two cores, with signals under way for two ticks
abbrev pub two_cores : List ContextPart → List NotePart → List ThreadPart → List Order → System
two_cores contexts notes threads orders = record (one_core contexts notes threads orders) { cores = 2; delay = 2 }
