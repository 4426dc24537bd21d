-- A system: the contents of a file. Each thing is numbered by its place in its list.
use Rattle.std.specs.Prelude.{ℕ, ◌≡◌, ◌≢◌, ◌<◌, ◌≤◌, ◌==◌, ◌&&◌, ◌+◌, Bool, nat_le, if◌then◌else◌, List, [], ◌∷◌, length, get_or}
use Rattle.mcs_control.specs.declared.config.Mode.TheVariants.{Sporadic}
use Rattle.mcs_system.specs.declared.part.ContextPart.{ContextPart}
use Rattle.mcs_system.specs.declared.part.Link.{Link}
use Rattle.mcs_system.specs.declared.part.NotePart.{NotePart}
use Rattle.mcs_system.specs.declared.part.SourcePart.{SourcePart}
use Rattle.mcs_system.specs.declared.part.ThreadPart.{ThreadPart}
use Rattle.mcs_system.specs.declared.part.SystemParts.{SystemParts}

abbrev pub System : Type 0
System = SystemParts

-- the values past the end of each list, which are never reached
abbrev pub no_context : ContextPart
no_context = record { name = []; core = 0; config = record { budget = 0; period = 0; extra = 0 }; mode = Sporadic }

abbrev pub no_thread : ThreadPart
no_thread = record { name = []; context = 0; priority = 0; start = 0; rounds = 0; deadline = 0; script = [] }

abbrev pub no_note : NotePart
no_note = record { name = []; core = 0; word = 0 }

abbrev pub no_source : SourcePart
no_source = record { name = []; note = 0; badge = 0 }

abbrev pub context_part : System → ℕ → ContextPart
context_part system context = get_or system.contexts context no_context

abbrev pub note_part : System → ℕ → NotePart
note_part system note = get_or system.notes note no_note

abbrev pub thread_part : System → ℕ → ThreadPart
thread_part system thread = get_or system.threads thread no_thread

abbrev pub source_part : System → ℕ → SourcePart
source_part system source = get_or system.sources source no_source

-- the last of the notes are servers
abbrev pub is_server : System → ℕ → Bool
is_server system note = nat_le (length system.notes) (note + system.servers)

-- the core of a thread is that of its context
abbrev pub core_of : System → ThreadPart → ℕ
core_of system thread = (context_part system thread.context).core

-- the start of the thread that has this context, or 0
abbrev pub start_of : List ThreadPart → ℕ → ℕ
start_of [] context = 0
start_of (thread ∷ threads) context = if thread.context == context then thread.start else start_of threads context

-- the delay of the link from this maker to this home, or `delay` if they have no link
abbrev pub delay_by_link : List Link → ℕ → ℕ → ℕ → ℕ
delay_by_link [] maker home delay = delay
delay_by_link (link ∷ links) maker home delay =
    if link.maker == maker && link.home == home then link.delay else delay_by_link links maker home delay

-- the delay of a signal from this maker to this core
abbrev pub delay_between : System → ℕ → ℕ → ℕ
delay_between system maker home = delay_by_link system.links maker home system.delay

-- each signal takes at least one tick
abbrev pub TakesTime : System → Type 0
TakesTime system = (maker home : ℕ) → 1 ≤ delay_between system maker home

-- two different cores with this delay from one to the other
pub record HasDelay (system : System) (delay : ℕ) : Type 0 where
  pub maker : ℕ
  pub home : ℕ
  pub maker_known : maker < system.cores
  pub home_known : home < system.cores
  pub differ : maker ≢ home
  pub is : delay_between system maker home ≡ delay

-- the minimum delay between two different cores
pub record IsLeastDelay (system : System) (least : ℕ) : Type 0 where
  pub below : (maker home : ℕ) → maker < system.cores → home < system.cores → maker ≢ home →
      least ≤ delay_between system maker home
  pub there : 2 ≤ system.cores → HasDelay system least
