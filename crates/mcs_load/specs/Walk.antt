-- The tests of a file, in the order in which they are made.
use Rattle.std.specs.Prelude.{ℕ, ◌+◌, ◌-◌, ◌^◌, ℤ, pos, negsuc, Bool, true, false, ◌&&◌, ◌||◌, if◌then◌else◌, List, [], ◌∷◌, ◌++◌, length, map, get_or, not, nat_eq, nat_le, ◌==◌, Option, Some, None, is_some, option_and_then, unwrap_or, codes, Result, Ok, Err}
use Rattle.std.specs.Str.{is_utf8}
use Rattle.std.specs.Cmp.Lexicographic.{pointwise}
use Rattle.std.specs.List.{list_any, slice_get, flat_map}
use Rattle.toml.specs.Data.{Items, Members, no_members, get_member, as_integer, as_str}
use Rattle.toml.specs.Parse.{parse_document}
use Rattle.mcs_control.specs.declared.config.Config.{Config}
use Rattle.mcs_control.specs.declared.config.Kind.{Kind}
use Rattle.mcs_control.specs.declared.config.Kind.TheVariants as kinds
use Rattle.mcs_control.specs.declared.config.Mode.{Mode}
use Rattle.mcs_control.specs.declared.config.Mode.TheVariants as modes
use Rattle.mcs_control.specs.declared.config.Order.{Order}
use Rattle.mcs_control.specs.declared.config.ControlFault.{ControlFault}
use Rattle.mcs_control.specs.declared.config.ControlFault.TheVariants as refused
use Rattle.mcs_control.specs.Control.{checked, kind_of, takes}
use Rattle.mcs_script.specs.declared.item.Item.{Item}
use Rattle.mcs_script.specs.Script.{is_wait}
use Rattle.mcs_system.specs.declared.part.ChainPart.{ChainPart}
use Rattle.mcs_system.specs.declared.part.ContextPart.{ContextPart}
use Rattle.mcs_system.specs.declared.part.Link.{Link}
use Rattle.mcs_system.specs.declared.part.NotePart.{NotePart}
use Rattle.mcs_system.specs.declared.part.ThreadPart.{ThreadPart}
use Rattle.mcs_system.specs.declared.part.SystemParts.{SystemParts}
use Rattle.mcs_system.specs.System.{no_context, no_thread}
use Rattle.mcs_load.specs.declared.fault.FaultKind.TheVariants.{NotToml, WrongKind, OutOfRange, TooMany, Control, UnknownName, ContextTaken, OtherCore, KindChange, SelfLink, DoubleLink, ModeOfSlice, NoWait}
use Rattle.mcs_load.specs.declared.spot.Key.{Key}
use Rattle.mcs_load.specs.declared.spot.Key.TheVariants as key
use Rattle.mcs_load.specs.declared.spot.Section.TheVariants as section
use Rattle.mcs_load.specs.Keys.{key_name}
use Rattle.mcs_load.specs.Script.{script, server_script, place_or_first}
use Rattle.mcs_load.specs.Dates.{read_dates, taken_by, part_of_source}
use Rattle.mcs_load.specs.Checks.{Checked, ◌>>=◌, reads}
use Rattle.mcs_load.specs.declared.at.At.{At}
use Rattle.mcs_load.specs.declared.config.Settings.{Settings}
use Rattle.mcs_load.specs.declared.numbers.Numbers.{Numbers}
use Rattle.mcs_load.specs.declared.server.Server.{Server}
use Rattle.mcs_load.specs.declared.source.Source.{Source}
use Rattle.mcs_load.specs.declared.thread.Timing.{Timing}
use Rattle.mcs_load.specs.Words.{place_of, text, must_at, if_there, array_at, only_keys, whole_number, number_with_default, new_name, row, rows, item_count, each, array_of}

-- no upper limit but that of a TOML integer
abbrev pub any_number : ℕ
any_number = 2 ^ 63 - 1

-- the key of a refusal of SchedControl
abbrev pub key_of : ControlFault → Key
key_of refused.ZeroBudget = key.Budget
key_of refused.BudgetTooSmall = key.Budget
key_of refused.BudgetOverPeriod = key.Budget
key_of refused.PeriodTooLong = key.Period
key_of refused.TooManyRefills = key.ExtraRefills

unfoldable pub accepts : At → Result Kind ControlFault → Checked (Unit {0})
accepts at (Ok kind) = reads tt
accepts at (Err fault) = must_at at (key_of fault) (Control fault) false

unfoldable pub config : At → Members → Checked Config
config at row = do
  budget ← whole_number at key.Budget 0 any_number row
  period ← whole_number at key.Period 0 any_number row
  extra ← number_with_default at key.ExtraRefills 0 any_number 0 row
  reads (record { budget = budget; period = period; extra = extra })

-- the configuration of a row, which SchedControl accepts
unfoldable pub accepted_config : ℕ → At → Members → Checked Config
accepted_config min_budget at row = do
  config ← config at row
  _ ← accepts at (checked min_budget config)
  reads config

-- the mode with this name
abbrev pub named_mode : List ℕ → Option Mode
named_mode name =
    if pointwise nat_eq name (codes "sporadic") then Some modes.Sporadic
    else if pointwise nat_eq name (codes "bandwidth") then Some modes.Bandwidth
    else None

-- the mode of a row without the key: in version 3 bandwidth, unless the context is round robin
abbrev pub default_mode : Bool → Kind → Mode
default_mode true kinds.Sporadic = modes.Bandwidth
default_mode true kinds.RoundRobin = modes.Sporadic
default_mode false kind = modes.Sporadic

-- the mode of a row, or this one if the key is absent
unfoldable pub mode : Mode → At → Members → Checked Mode
mode default at row =
    let found = get_member (key_name key.Mode) row in
    let name = option_and_then as_str found in do
      _ ← must_at at key.Mode WrongKind (if_there (λ d. is_some (as_str d)) found)
      _ ← must_at at key.Mode OutOfRange (if_there (λ n. is_some (named_mode n)) name)
      reads (unwrap_or (option_and_then named_mode name) default)

unfoldable pub takes_mode : At → Kind → Mode → Checked (Unit {0})
takes_mode at kind mode = must_at at key.Mode ModeOfSlice (takes kind mode)

-- the configuration of a row, which SchedControl accepts, and a mode of its kind
unfoldable pub settings : Bool → ℕ → At → Members → Checked Settings
settings is_new min_budget at row = do
  config ← config at row
  mode ← mode (default_mode is_new (kind_of config)) at row
  _ ← accepts at (checked min_budget config)
  _ ← takes_mode at (kind_of config) mode
  reads (record { config = config; mode = mode })

abbrev pub context_keys : List Key
context_keys = key.Name ∷ key.Core ∷ key.Budget ∷ key.Period ∷ key.ExtraRefills ∷ []

-- modes need version 2 or 3
unfoldable pub listed_context_keys : Bool → List Key
listed_context_keys has_modes = if has_modes then key.Mode ∷ context_keys else context_keys

unfoldable pub context : Bool → Bool → ℕ → ℕ → At → List ContextPart → Members → Checked ContextPart
context has_modes is_new cores min_budget at earlier row = do
  _ ← only_keys at (listed_context_keys has_modes) row
  name ← new_name at (map (λ c. c.name) earlier) row
  core ← whole_number at key.Core 0 (cores - 1) row
  set ← settings is_new min_budget at row
  reads (record { name = name; core = core; config = set.config; mode = set.mode })

-- first words need version 3
unfoldable pub listed_note_keys : Bool → List Key
listed_note_keys is_new = if is_new then key.Word ∷ key.Name ∷ key.Core ∷ [] else key.Name ∷ key.Core ∷ []

-- maximum word and badge
abbrev pub max_word : ℕ
max_word = 2 ^ 32 - 1

unfoldable pub note : Bool → ℕ → At → List NotePart → Members → Checked NotePart
note is_new cores at earlier row = do
  _ ← only_keys at (listed_note_keys is_new) row
  name ← new_name at (map (λ n. n.name) earlier) row
  core ← whole_number at key.Core 0 (cores - 1) row
  word ← number_with_default at key.Word 0 max_word 0 row
  reads (record { name = name; core = core; word = word })

-- whether the file's version is the integer 2 or 3, and whether it is 3
abbrev pub is_two_or_three : Option ℤ → Bool
is_two_or_three (Some (pos n)) = n == 2 || n == 3
is_two_or_three (Some (negsuc n)) = false
is_two_or_three None = false

abbrev pub is_three : Option ℤ → Bool
is_three (Some (pos n)) = n == 3
is_three (Some (negsuc n)) = false
is_three None = false

abbrev pub is_version_2_or_3 : Members → Bool
is_version_2_or_3 file = is_two_or_three (option_and_then as_integer (get_member (key_name key.Version) file))

abbrev pub is_version_3 : Members → Bool
is_version_3 file = is_three (option_and_then as_integer (get_member (key_name key.Version) file))

unfoldable pub contexts : Bool → Bool → ℕ → ℕ → Members → Checked (List ContextPart)
contexts has_modes is_new cores min_budget file =
    array_of section.Context key.Context (context has_modes is_new cores min_budget) file

unfoldable pub notes : Bool → ℕ → Members → Checked (List NotePart)
notes is_new cores file = array_of section.Note key.Note (note is_new cores) file

-- a server whose name no notification and no earlier server has
unfoldable pub server : List NotePart → ℕ → At → List Server → Members → Checked Server
server notes cores at earlier row = do
  _ ← only_keys at (key.Name ∷ key.Core ∷ key.Priority ∷ key.Script ∷ []) row
  name ← new_name at (map (λ n. n.name) notes ++ map (λ s. s.name) earlier) row
  core ← whole_number at key.Core 0 (cores - 1) row
  priority ← whole_number at key.Priority 0 255 row
  steps ← server_script notes earlier core priority at row
  reads (record { name = name; core = core; priority = priority; steps = steps })

-- at most 4,096 notifications and servers together
unfoldable pub few_notes : List NotePart → Items → Checked (Unit {0})
few_notes notes values =
    must_at (array_at section.Server) key.Whole TooMany (nat_le (length notes + item_count values) 4096)

unfoldable pub servers : List NotePart → ℕ → Members → Checked (List Server)
servers notes cores file = do
  values ← rows section.Server key.Server file
  _ ← few_notes notes values
  each (row section.Server (server notes cores)) [] values

-- a server is a notification whose word is 1 while it is free
abbrev pub free_server : Server → NotePart
free_server server = record { name = server.name; core = server.core; word = 1 }

-- the index of a name that is known at this key
unfoldable pub known : Key → At → List (List ℕ) → List ℕ → Checked ℕ
known key at names name = let found = place_of name names in do
  _ ← must_at at key UnknownName (is_some found)
  reads (place_or_first found)

-- the index of the name at this key among the known ones
unfoldable pub known_name : Key → List (List ℕ) → At → Members → Checked ℕ
known_name key names at row = do
  name ← text at key row
  known key at names name

abbrev pub part_at : List ContextPart → ℕ → ContextPart
part_at contexts context = get_or contexts context no_context

-- maximum start, order time, number of jobs and deadline
abbrev pub max_ticks : ℕ
max_ticks = 2 ^ 40

-- a context that no earlier thread has
unfoldable pub own_context : List (List ℕ) → At → List ℕ → Members → Checked ℕ
own_context names at taken row = do
  context ← known_name key.Context names at row
  _ ← must_at at key.Context ContextTaken (not (list_any (nat_eq context) taken))
  reads context

unfoldable pub times : At → Members → Checked Timing
times at row = do
  start ← number_with_default at key.Start 0 max_ticks 0 row
  rounds ← number_with_default at key.Rounds 0 max_ticks 0 row
  deadline ← number_with_default at key.Deadline 0 max_ticks 0 row
  reads (record { start = start; rounds = rounds; deadline = deadline })

-- a thread's core is its context's
unfoldable pub thread : List ContextPart → List NotePart → List Server → Bool → At → List ThreadPart → Members → Checked ThreadPart
thread contexts notes servers is_new at earlier row = do
  _ ← only_keys at (key.Name ∷ key.Context ∷ key.Priority ∷ key.Start ∷ key.Rounds ∷ key.Deadline ∷ key.Script ∷ []) row
  name ← new_name at (map (λ t. t.name) earlier) row
  context ← own_context (map (λ c. c.name) contexts) at (map (λ t. t.context) earlier) row
  priority ← whole_number at key.Priority 0 255 row
  times ← times at row
  script ← script notes servers (part_at contexts context).core priority is_new at row
  reads (record {
    name = name;
    context = context;
    priority = priority;
    start = times.start;
    rounds = times.rounds;
    deadline = times.deadline;
    script = script;
  })

unfoldable pub threads : List ContextPart → List NotePart → List Server → Bool → Members → Checked (List ThreadPart)
threads contexts notes servers is_new file =
    array_of section.Thread key.Thread (thread contexts notes servers is_new) file

-- the context of an order. The order's core names the SchedControl capability that is used.
unfoldable pub ordered_context : ℕ → List ContextPart → At → Members → Checked ℕ
ordered_context cores contexts at row = do
  core ← whole_number at key.Core 0 (cores - 1) row
  context ← known_name key.Context (map (λ c. c.name) contexts) at row
  _ ← must_at at key.Core OtherCore ((part_at contexts context).core == core)
  reads context

abbrev pub is_same_kind : Kind → Kind → Bool
is_same_kind kinds.Sporadic kinds.Sporadic = true
is_same_kind kinds.RoundRobin kinds.RoundRobin = true
is_same_kind _ _ = false

-- no order makes a context round robin, or makes a round robin context sporadic
unfoldable pub keeps_kind : At → Kind → Kind → Checked (Unit {0})
keeps_kind at old new = must_at at key.Period KindChange (is_same_kind old new)

-- two orders may name one context, so earlier orders are not compared
unfoldable pub order : ℕ → ℕ → List ContextPart → At → List Order → Members → Checked Order
order cores min_budget contexts at earlier row = do
  _ ← only_keys at (key.At ∷ key.Core ∷ key.Context ∷ key.Budget ∷ key.Period ∷ key.ExtraRefills ∷ []) row
  moment ← whole_number at key.At 0 max_ticks row
  context ← ordered_context cores contexts at row
  config ← accepted_config min_budget at row
  _ ← keeps_kind at (kind_of (part_at contexts context).config) (kind_of config)
  reads (record { moment = moment; context = context; config = config })

unfoldable pub orders : ℕ → ℕ → List ContextPart → Members → Checked (List Order)
orders cores min_budget contexts file = array_of section.Order key.Order (order cores min_budget contexts) file

-- the two cores of a row, and its delay
unfoldable pub link_numbers : ℕ → At → Members → Checked Link
link_numbers cores at row = do
  _ ← only_keys at (key.Maker ∷ key.Home ∷ key.Delay ∷ []) row
  maker ← whole_number at key.Maker 0 (cores - 1) row
  home ← whole_number at key.Home 0 (cores - 1) row
  delay ← whole_number at key.Delay 1 (2 ^ 20) row
  reads (record { maker = maker; home = home; delay = delay })

-- one of the links is from this core to that one
abbrev pub is_linked : List Link → ℕ → ℕ → Bool
is_linked links maker home = list_any (λ link. link.maker == maker && link.home == home) links

-- a link to another core, which no earlier row has
unfoldable pub link : ℕ → At → List Link → Members → Checked Link
link cores at earlier row = do
  link ← link_numbers cores at row
  _ ← must_at at key.Home SelfLink (not (link.maker == link.home))
  _ ← must_at at key.Home DoubleLink (not (is_linked earlier link.maker link.home))
  reads link

unfoldable pub links : ℕ → Members → Checked (List Link)
links cores file = array_of section.Link key.Link (link cores) file

-- a source posts a badge on one of these notifications
unfoldable pub source : List (List ℕ) → At → List Source → Members → Checked Source
source note_names at earlier row = do
  _ ← only_keys at (key.Name ∷ key.Note ∷ key.Badge ∷ key.Period ∷ key.Start ∷ key.Count ∷ key.At ∷ []) row
  name ← new_name at (map (λ s. s.name) earlier) row
  note ← known_name key.Note note_names at row
  badge ← whole_number at key.Badge 1 max_word row
  dates ← read_dates (length earlier) (taken_by earlier) at row
  reads (record { name = name; note = note; badge = badge; dates = dates })

unfoldable pub sources : List (List ℕ) → Members → Checked (List Source)
sources note_names file = array_of section.Source key.Source (source note_names) file

abbrev pub script_of : List ThreadPart → ℕ → List Item
script_of threads thread = (get_or threads thread no_thread).script

-- whether one of the steps is a wait
abbrev pub has_wait : List Item → Bool
has_wait steps = list_any (λ step. is_wait (Some step)) steps

-- a chain's thread waits
unfoldable pub waits : At → List Item → Checked (Unit {0})
waits at steps = must_at at key.Thread NoWait (has_wait steps)

-- a chain with badges names a thread whose first item is a wait
unfoldable pub waits_first : At → ℕ → List Item → Checked (Unit {0})
waits_first at badges steps = must_at at key.Badges NoWait (badges == 0 || is_wait (slice_get steps 0))

unfoldable pub chain : List (List ℕ) → List ThreadPart → At → List ChainPart → Members → Checked ChainPart
chain source_names threads at earlier row = do
  _ ← only_keys at (key.Name ∷ key.Source ∷ key.Thread ∷ key.Badges ∷ key.Deadline ∷ []) row
  name ← new_name at (map (λ c. c.name) earlier) row
  source ← known_name key.Source source_names at row
  thread ← known_name key.Thread (map (λ t. t.name) threads) at row
  badges ← number_with_default at key.Badges 0 max_word 0 row
  deadline ← number_with_default at key.Deadline 0 max_ticks 0 row
  _ ← waits at (script_of threads thread)
  _ ← waits_first at badges (script_of threads thread)
  reads (record { name = name; source = source; thread = thread; badges = badges; deadline = deadline })

unfoldable pub chains : List (List ℕ) → List ThreadPart → Members → Checked (List ChainPart)
chains source_names threads file = array_of section.Chain key.Chain (chain source_names threads) file

abbrev pub top : At
top = array_at section.Top

abbrev pub top_keys : List Key
top_keys = key.Version ∷ key.Cores ∷ key.Delay ∷ key.Call ∷ key.MinBudget ∷ key.Context ∷ key.Note ∷ key.Thread ∷ key.Order ∷ []

-- links need version 2 or 3; chains, sources and servers need version 3
unfoldable pub listed_keys : Members → List Key
listed_keys file =
    if is_version_3 file then key.Chain ∷ key.Source ∷ key.Server ∷ key.Link ∷ top_keys
    else if is_version_2_or_3 file then key.Link ∷ top_keys
    else top_keys

-- the numbers at the top
unfoldable pub numbers : Members → Checked Numbers
numbers file = do
  _ ← only_keys top (listed_keys file) file
  _ ← whole_number top key.Version 1 3 file
  cores ← whole_number top key.Cores 1 64 file
  delay ← whole_number top key.Delay 1 (2 ^ 20) file
  call ← number_with_default top key.Call 1 (2 ^ 16) 1 file
  min_budget ← number_with_default top key.MinBudget 1 (2 ^ 20) 1 file
  reads (record { cores = cores; delay = delay; call = call; min_budget = min_budget })

-- the parts before the threads
pub record Base : Type 0 where
  pub top : Numbers
  pub links : List Link
  pub contexts : List ContextPart
  pub notes : List NotePart
  pub servers : List Server

unfoldable pub base : Members → Checked Base
base file = do
  top ← numbers file
  links ← links top.cores file
  contexts ← contexts (is_version_2_or_3 file) (is_version_3 file) top.cores top.min_budget file
  notes ← notes (is_version_3 file) top.cores file
  servers ← servers notes top.cores file
  reads (record { top = top; links = links; contexts = contexts; notes = notes; servers = servers })

-- the system made from the parts: its notes are the notifications and then the servers
abbrev pub system_of : Base → List ThreadPart → List Source → List Order → List ChainPart → SystemParts
system_of base threads sources orders chains = record {
  cores = base.top.cores;
  delay = base.top.delay;
  call = base.top.call;
  min_budget = base.top.min_budget;
  contexts = base.contexts;
  notes = base.notes ++ map free_server base.servers;
  servers = length base.servers;
  threads = threads;
  orders = orders;
  links = base.links;
  sources = map part_of_source sources;
  beats = flat_map (λ s. s.dates.beats) sources;
  chains = chains;
}

-- threads, sources, orders and chains
unfoldable pub others : Base → Members → Checked SystemParts
others base file = do
  threads ← threads base.contexts base.notes base.servers (is_version_3 file) file
  sources ← sources (map (λ n. n.name) base.notes) file
  orders ← orders base.top.cores base.top.min_budget base.contexts file
  chains ← chains (map (λ s. s.name) sources) threads file
  reads (system_of base threads sources orders chains)

unfoldable pub walk : Members → Checked SystemParts
walk file = do
  base ← base file
  others base file

-- the table of the text
abbrev pub table_or_empty : Option Members → Members
table_or_empty None = no_members
table_or_empty (Some members) = members

unfoldable pub document : List ℕ → Checked Members
document bytes = let found = parse_document bytes in do
  _ ← must_at (array_at section.File) key.Whole NotToml (is_utf8 bytes && is_some found)
  reads (table_or_empty found)

-- all tests of a file's bytes, and the system that it describes
unfoldable pub file : List ℕ → Checked SystemParts
file bytes = do
  members ← document bytes
  walk members
