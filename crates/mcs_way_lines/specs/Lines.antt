-- The lines of the way of an answer, as text and as JSON: each leg, and the sums of their ticks.
use Rattle.std.specs.Prelude.{ℕ, List, [], ◌∷◌, ◌++◌, codes, decimal, flat_map}
use Rattle.mcs_fields.specs.Fields.{Text, Value, amount, empty, name, object_text}
use Rattle.mcs_system.specs.System.{System, core_of, note_part, thread_part}
use Rattle.mcs_text.specs.Text.{counted, line, note_name, thread_name}
use Rattle.mcs_verdict.specs.declared.standing.Stood.{Stood}
use Rattle.mcs_way.specs.declared.leg.Carrier.{Carrier}
use Rattle.mcs_way.specs.declared.leg.Carrier.TheVariants.{Note, Thread, Signal}
use Rattle.mcs_way.specs.declared.leg.Leg.{Leg}
use Rattle.mcs_way.specs.declared.sums.Sums.{Sums}
use Rattle.mcs_way.specs.Sums.{sums_of, ticks_of}

abbrev pub Fields : Type 0
Fields = List (Text × Value)

-- the core of a leg: that of the notification or of the thread, or the one that a signal leaves
abbrev pub core_by : System → Carrier → ℕ
core_by system (Note note) = (note_part system note).core
core_by system (Thread thread stood) = core_of system (thread_part system thread)
core_by system (Signal maker home) = maker

-- when a leg ends, and how long it takes
abbrev pub times : Leg → List (Text × ℕ)
times leg = (codes "to", leg.to) ∷ (codes "ticks", ticks_of leg) ∷ []

-- how a thread stood
abbrev pub ways : Stood → List (Text × ℕ)
ways stood =
    (codes "ready", stood.ready) ∷ (codes "running", stood.running) ∷ (codes "throttled", stood.throttled)
    ∷ (codes "blocked", stood.blocked) ∷ (codes "server", stood.server) ∷ []

abbrev pub words_by : System → Leg → Carrier → List Text
words_by system leg (Note note) = codes "held" ∷ note_name system note ∷ counted (times leg)
words_by system leg (Thread thread stood) = codes "ran" ∷ thread_name system thread ∷ counted (times leg) ++ counted (ways stood)
words_by system leg (Signal maker home) = codes "delay" ∷ counted ((codes "core", home) ∷ []) ++ counted (times leg)

-- the line of a leg: its beginning, its core, and what had the interrupt
abbrev pub leg_text : System → Leg → Text
leg_text system leg = line (decimal leg.from) (decimal (core_by system leg.carrier) ∷ words_by system leg leg.carrier)

-- its values
abbrev pub fields_by : System → Leg → Carrier → Fields
fields_by system leg (Note note) =
    (codes "moment", amount leg.from) ∷ (codes "core", amount (core_by system (Note note))) ∷ (codes "kind", name (codes "held"))
    ∷ (codes "thread", empty) ∷ (codes "note", name (note_name system note)) ∷ (codes "home", empty) ∷ (codes "to", amount leg.to)
    ∷ (codes "ticks", amount (ticks_of leg)) ∷ (codes "ready", empty) ∷ (codes "running", empty) ∷ (codes "throttled", empty)
    ∷ (codes "blocked", empty) ∷ (codes "server", empty) ∷ []
fields_by system leg (Thread thread stood) =
    (codes "moment", amount leg.from) ∷ (codes "core", amount (core_by system (Thread thread stood))) ∷ (codes "kind", name (codes "ran"))
    ∷ (codes "thread", name (thread_name system thread)) ∷ (codes "note", empty) ∷ (codes "home", empty) ∷ (codes "to", amount leg.to)
    ∷ (codes "ticks", amount (ticks_of leg)) ∷ (codes "ready", amount stood.ready) ∷ (codes "running", amount stood.running)
    ∷ (codes "throttled", amount stood.throttled) ∷ (codes "blocked", amount stood.blocked) ∷ (codes "server", amount stood.server) ∷ []
fields_by system leg (Signal maker home) =
    (codes "moment", amount leg.from) ∷ (codes "core", amount (core_by system (Signal maker home))) ∷ (codes "kind", name (codes "delay"))
    ∷ (codes "thread", empty) ∷ (codes "note", empty) ∷ (codes "home", amount home) ∷ (codes "to", amount leg.to)
    ∷ (codes "ticks", amount (ticks_of leg)) ∷ (codes "ready", empty) ∷ (codes "running", empty) ∷ (codes "throttled", empty)
    ∷ (codes "blocked", empty) ∷ (codes "server", empty) ∷ []

abbrev pub leg_fields : System → Leg → Fields
leg_fields system leg = fields_by system leg leg.carrier

abbrev pub leg_object : System → Leg → Text
leg_object system leg = object_text (leg_fields system leg)

-- the sums
abbrev pub sum_text : Sums → Text
sum_text sums =
    line (codes "sum") (counted ((codes "ticks", sums.ticks) ∷ (codes "held", sums.held) ∷ (codes "delay", sums.delay)
    ∷ (codes "ready", sums.ready) ∷ (codes "running", sums.running) ∷ (codes "throttled", sums.throttled) ∷ (codes "blocked", sums.blocked)
    ∷ (codes "server", sums.server) ∷ []))

abbrev pub sum_fields : Sums → Fields
sum_fields sums =
    (codes "kind", name (codes "sum")) ∷ (codes "ticks", amount sums.ticks) ∷ (codes "held", amount sums.held)
    ∷ (codes "delay", amount sums.delay) ∷ (codes "ready", amount sums.ready) ∷ (codes "running", amount sums.running)
    ∷ (codes "throttled", amount sums.throttled) ∷ (codes "blocked", amount sums.blocked) ∷ (codes "server", amount sums.server) ∷ []

-- all lines of a way, as text and as objects
abbrev pub way_text : System → List Leg → Text
way_text system way = flat_map (leg_text system) way ++ sum_text (sums_of way)

abbrev pub way_objects : System → List Leg → Text
way_objects system way = flat_map (leg_object system) way ++ object_text (sum_fields (sums_of way))
