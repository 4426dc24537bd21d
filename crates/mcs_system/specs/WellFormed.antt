-- The well-formed systems.
use Rattle.std.specs.Prelude.{◌≡◌, ℕ, ◌+◌, ◌-◌, ◌<◌, ◌≤◌, ◌^◌, ◌≢◌, true, false, List, length, drop, All, AllPairs, IsOk, IsTrue}
use Rattle.mcs_control.specs.declared.config.Order.{Order}
use Rattle.mcs_control.specs.Control.{checked, kind_of, IsModeOf}
use Rattle.mcs_script.specs.declared.item.Item.{Item}
use Rattle.mcs_script.specs.declared.item.Item.TheVariants.{Compute, Signal, Wait, Yield, On, Spin, Enter, Leave}
use Rattle.mcs_script.specs.Script.{IsScript}
use Rattle.mcs_system.specs.declared.part.Beat.{Beat}
use Rattle.mcs_system.specs.declared.part.ChainPart.{ChainPart}
use Rattle.mcs_system.specs.declared.part.ContextPart.{ContextPart}
use Rattle.mcs_system.specs.declared.part.Link.{Link}
use Rattle.mcs_system.specs.declared.part.NotePart.{NotePart}
use Rattle.mcs_system.specs.declared.part.SourcePart.{SourcePart}
use Rattle.mcs_system.specs.declared.part.ThreadPart.{ThreadPart}
use Rattle.mcs_system.specs.Names.{is_name}
use Rattle.mcs_system.specs.System.{System, context_part, note_part, core_of, is_server}

-- all things of one kind: at most 4,096, each with a valid name, and all names distinct
pub record AreNamed {A : Type 0} (name : A → List ℕ) (things : List A) : Type 0 where
  pub few : length things ≤ 4096
  pub each : All (λ thing. IsTrue (is_name (name thing))) things
  pub distinct : AllPairs (λ a b. name a ≢ name b) things

-- the first of two beats is of an earlier source, or of the same source with an earlier date in the
-- same period
abbrev pub DoPrecede : Beat → Beat → Type 0
DoPrecede a b =
    (a.source ≤ b.source)
    × (a.source ≡ b.source → (a.period ≡ b.period) × (a.first < b.first) × (b.first < a.first + a.period))

-- the beats are in the order of their sources, and those of one source in the order of their dates
-- within a period
pub record AreInOrder (beats : List Beat) : Type 0 where
  pub each : AllPairs DoPrecede beats

-- the links have different pairs of cores
abbrev pub DifferInCores : Link → Link → Type 0
DifferInCores a b = ¬ ((a.maker ≡ b.maker) × (a.home ≡ b.home))

module _ (system : System) where
  -- the number of cores, and times in ticks, are in range
  pub record AreLimits : Type 0 where
    pub cores : (1 ≤ system.cores) × (system.cores ≤ 64)
    pub delay : (1 ≤ system.delay) × (system.delay ≤ 2 ^ 20)
    pub call : (1 ≤ system.call) × (system.call ≤ 2 ^ 16)
    pub min_budget : (1 ≤ system.min_budget) × (system.min_budget ≤ 2 ^ 20)

  -- on an existing core, with a configuration that SchedControl accepts and a mode of its kind
  pub record IsContext (context : ContextPart) : Type 0 where
    pub core : context.core < system.cores
    pub accepted : IsOk (checked system.min_budget context.config)
    pub mode : IsModeOf (kind_of context.config) context.mode

  -- on an existing core
  abbrev pub IsNote : NotePart → Type 0
  IsNote note = note.core < system.cores

  -- a notification of this core, and a server of this core
  abbrev pub IsNotification : ℕ → ℕ → Type 0
  IsNotification core note =
      (note < length system.notes) × ((note_part system note).core ≡ core) × (is_server system note ≡ false)

  abbrev pub IsServer : ℕ → ℕ → Type 0
  IsServer core note =
      (note < length system.notes) × ((note_part system note).core ≡ core) × (is_server system note ≡ true)

  -- an item of a thread of this core: its numbers are in range and its notification exists; a wait
  -- and a server are on this core
  abbrev pub IsItem : ℕ → Item → Type 0
  IsItem core (Compute ticks) = (1 ≤ ticks) × (ticks ≤ 2 ^ 40)
  IsItem core (Signal note badge) =
      (note < length system.notes) × (is_server system note ≡ false) × (1 ≤ badge) × (badge < 2 ^ 32)
  IsItem core (Wait note) = IsNotification core note
  IsItem core Yield = Unit {0}
  IsItem core (On badges) = (1 ≤ badges) × (badges < 2 ^ 32)
  IsItem core Spin = Unit {0}
  IsItem core (Enter server priority) = IsServer core server
  IsItem core (Leave server priority) = IsServer core server

  -- bound to an existing context, with numbers in range and a script of 1 to 1,024 items
  pub record IsThread (thread : ThreadPart) : Type 0 where
    pub bound : thread.context < length system.contexts
    pub priority : thread.priority ≤ 255
    pub start : thread.start ≤ 2 ^ 40
    pub rounds : thread.rounds ≤ 2 ^ 40
    pub deadline : thread.deadline ≤ 2 ^ 40
    pub script : IsScript thread.script
    pub items : All (IsItem (core_of system thread)) thread.script

  -- for an existing context, whose kind it keeps, with a configuration that SchedControl accepts
  pub record IsOrder (order : Order) : Type 0 where
    pub moment : order.moment ≤ 2 ^ 40
    pub context : order.context < length system.contexts
    pub accepted : IsOk (checked system.min_budget order.config)
    pub same_kind : kind_of order.config ≡ kind_of (context_part system order.context).config

  -- from an existing core to another one, with a delay in range
  pub record IsLink (link : Link) : Type 0 where
    pub maker : link.maker < system.cores
    pub home : link.home < system.cores
    pub other : link.maker ≢ link.home
    pub delay : (1 ≤ link.delay) × (link.delay ≤ 2 ^ 20)

  -- it posts a badge on an existing notification
  pub record IsSource (source : SourcePart) : Type 0 where
    pub note : source.note < length system.notes
    pub signalled : is_server system source.note ≡ false
    pub badge : (1 ≤ source.badge) × (source.badge < 2 ^ 32)

  -- of an existing source, with numbers in range
  pub record IsBeat (beat : Beat) : Type 0 where
    pub source : beat.source < length system.sources
    pub first : beat.first ≤ 2 ^ 41
    pub period : (1 ≤ beat.period) × (beat.period ≤ 2 ^ 40)

  -- the last notes are servers, and each of them is free at first
  pub record AreServers : Type 0 where
    pub few : system.servers ≤ length system.notes
    pub free : All (λ note. note.word ≡ 1) (drop (length system.notes - system.servers) system.notes)

  -- from an existing source to an existing thread, with numbers in range
  pub record IsChain (chain : ChainPart) : Type 0 where
    pub source : chain.source < length system.sources
    pub thread : chain.thread < length system.threads
    pub badges : chain.badges < 2 ^ 32
    pub deadline : chain.deadline ≤ 2 ^ 40

  pub record AreChains : Type 0 where
    pub names : AreNamed (λ chain. chain.name) system.chains
    pub chains : All IsChain system.chains

  -- the sources and their dates
  pub record AreSources : Type 0 where
    pub names : AreNamed (λ source. source.name) system.sources
    pub sources : All IsSource system.sources
    pub few_beats : length system.beats ≤ 4096
    pub beats : All IsBeat system.beats
    pub order : AreInOrder system.beats

  pub record IsWellFormed : Type 0 where
    pub limits : AreLimits
    pub context_names : AreNamed (λ context. context.name) system.contexts
    pub contexts : All IsContext system.contexts
    pub note_names : AreNamed (λ note. note.name) system.notes
    pub notes : All IsNote system.notes
    pub thread_names : AreNamed (λ thread. thread.name) system.threads
    pub threads : All IsThread system.threads
    -- no two threads have the same context
    pub one_each : AllPairs (λ a b. a.context ≢ b.context) system.threads
    pub few_orders : length system.orders ≤ 4096
    pub orders : All IsOrder system.orders
    pub few_links : length system.links ≤ 4096
    pub links : All IsLink system.links
    pub one_link : AllPairs DifferInCores system.links
    pub servers : AreServers
    pub sources : AreSources
    pub chains : AreChains
