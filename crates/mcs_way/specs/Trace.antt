-- An origin at one of its carriers: a notification, a thread, or a signal under way between cores.
use Rattle.std.specs.Prelude.{ℕ, Bool, ◌==◌, not, if◌then◌else◌, bit_and, bit_or, List, [], ◌∷◌, ◌++◌, Option, Some, None}
use Rattle.mcs_origins.specs.declared.taking.Taking.{Taking}
use Rattle.mcs_origins.specs.declared.taking.Taking.TheVariants.{First, Later}
use Rattle.mcs_way.specs.declared.leg.Carrier.{Carrier}
use Rattle.mcs_way.specs.declared.leg.Carrier.TheVariants.{Note}
use Rattle.mcs_way.specs.declared.leg.Leg.{Leg}

pub record Trace : Type 0 where
  -- the bits of a word at which it is, and 2^32 if it is in a thread's free set
  pub places : ℕ
  -- since when it is there
  pub since : ℕ
  -- the legs on which it came, the first one first
  pub legs : List Leg

-- an interrupt that its source posts with this badge
abbrev pub begun : ℕ → ℕ → Trace
begun moment badge = record { places = badge; since = moment; legs = [] }

-- the legs of an origin that leaves this carrier at this moment
abbrev pub legs_to : Carrier → ℕ → Trace → List Leg
legs_to carrier moment trace = trace.legs ++ (record { carrier = carrier; from = trace.since; to = moment }) ∷ []

-- it is then at the next carrier, at these places
abbrev pub left : Carrier → ℕ → ℕ → Trace → Trace
left carrier moment places trace = record { places = places; since = moment; legs = legs_to carrier moment trace }

-- a notification that a thread takes it from; there is no leg if it is taken at once
abbrev pub left_note : ℕ → ℕ → ℕ → Trace → Trace
left_note note moment places trace =
    if trace.since == moment then record trace { places = places } else left (Note note) moment places trace

-- whether it is at one of these places
abbrev pub is_at : ℕ → Trace → Bool
is_at places trace = not (bit_and trace.places places == 0)

-- what a signal with this badge carries of what its thread has at these places
abbrev pub given : ℕ → ℕ → Carrier → ℕ → Option Trace → Option Trace
given places badge carrier moment None = None
given places badge carrier moment (Some trace) = if is_at places trace then Some (left carrier moment badge trace) else None

-- what a thread takes from a notification
abbrev pub taken_first : ℕ → ℕ → ℕ → Trace → Option Trace
taken_first bits note moment trace =
    if is_at bits trace then Some (left_note note moment (bit_and trace.places bits) trace) else None

abbrev pub taken : Taking → ℕ → ℕ → Option Trace → Option Trace
taken taking note moment None = None
taken (First bits) note moment (Some trace) = taken_first bits note moment trace
taken (Later places) note moment (Some trace) = Some (left_note note moment places trace)

-- An origin that comes to a carrier: if it is there already, on another way, the first way stays.
abbrev pub joined : Option Trace → Option Trace → Option Trace
joined None old = old
joined (Some new) None = Some new
joined (Some new) (Some old) = Some (record old { places = bit_or old.places new.places })

-- since when it is there, if it is
abbrev pub since_of : Option Trace → Option ℕ
since_of None = None
since_of (Some trace) = Some trace.since

-- the legs of an origin that leaves this carrier for good; none if it is not there
abbrev pub ended_legs : Carrier → ℕ → Option Trace → List Leg
ended_legs carrier moment None = []
ended_legs carrier moment (Some trace) = legs_to carrier moment trace
