-- The legs of a way meet, and their ticks sum to the latency.
use Rattle.std.specs.Prelude.{ℕ, ◌≡◌, ◌+◌, ◌≤◌, ◌⊎◌, List, [], ◌∷◌, map, sum}
use Rattle.mcs_ticks.specs.declared.row.Row.{Row}
use Rattle.mcs_system.specs.System.{System}
use Rattle.mcs_verdict.specs.Findings.{InOrder, past_of}
use Rattle.mcs_verdict.specs.Stood.{all_ticks}
use Rattle.mcs_chain.specs.declared.answer.Answer.{Answer}
use Rattle.mcs_way.specs.declared.leg.Carrier.{Carrier}
use Rattle.mcs_way.specs.declared.leg.Carrier.TheVariants.{Thread}
use Rattle.mcs_way.specs.declared.leg.Leg.{Leg}
use Rattle.mcs_way.specs.declared.sought.Sought.TheVariants.{There}
use Rattle.mcs_way.specs.Sought.{sought}
use Rattle.mcs_way.specs.Sums.{delay_in, held_in, stood_in, ticks_of}
use Rattle.mcs_way.specs.Trail.{way_of}

abbrev pub all_ticks_of : List Leg → ℕ
all_ticks_of legs = sum (map ticks_of legs)

-- the ways in which a thread stood are the ticks of its leg
abbrev pub IsSplit : Carrier → ℕ → Type 0
IsSplit (Thread thread stood) ticks = all_ticks stood ≡ ticks
IsSplit _ ticks = Unit {0}

-- each leg begins where the one before it ended, the first one here, and the last one ends there
abbrev pub Lead : ℕ → List Leg → ℕ → Type 0
Lead from [] to = from ≡ to
Lead from (leg ∷ legs) to =
    (leg.from ≡ from) × (leg.from ≤ leg.to) × IsSplit leg.carrier (ticks_of leg) × Lead leg.to legs to

-- the way of an answer, once its row has come, leads from the interrupt to the end of the round
abbrev pub WaysLead : Type 0
WaysLead =
    (system : System) (answer : Answer) (rows : List Row) → InOrder [] rows →
    (way_of system answer (past_of [] rows) ≡ []) ⊎ Lead answer.origin (way_of system answer (past_of [] rows)) answer.moment

-- and the ticks of its legs sum to the time between them
abbrev pub TicksSum : Type 0
TicksSum = (from to : ℕ) (legs : List Leg) → Lead from legs to → from + all_ticks_of legs ≡ to

-- each answer of a chain has a way
abbrev pub AnswersHaveWays : Type 0
AnswersHaveWays =
    (system : System) (chain number : ℕ) (past : List Row) (answer : Answer) → sought system chain number past ≡ There answer →
    way_of system answer past ≡ [] → ⊥

-- the ticks of a way are those of notifications, of signals and of threads
abbrev pub PartsSum : Type 0
PartsSum =
    (from to : ℕ) (legs : List Leg) → Lead from legs to →
    all_ticks_of legs
    ≡ sum (map held_in legs) + sum (map delay_in legs) + sum (map (λ leg. all_ticks (stood_in leg)) legs)
