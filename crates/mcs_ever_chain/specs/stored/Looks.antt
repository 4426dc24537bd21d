-- What the search keeps of a chain.
use Rattle.std.specs.Prelude.{◌≡◌, ℕ, ◌+◌, ◌<◌, ◌≤◌, Bool, true, false, List, length, get_or, slice_get, Option, Some, None, IfSome}
use Rattle.mcs_system.specs.declared.part.ChainPart.{ChainPart}
use Rattle.mcs_system.specs.System.{System, thread_part, note_part, source_part, core_of, delay_between}
use Rattle.mcs_core.specs.Clock.{turn_of}
use Rattle.mcs_chain.specs.Later.{AreLater, StepsAreSame}
use Rattle.mcs_chain.specs.State.{state_of}
use Rattle.mcs_ever.specs.Closed.{has}
use Rattle.mcs_ever_found.specs.Recurs.{past_before}
use Rattle.mcs_ever_chain.specs.declared.home.Home.{Home}
use Rattle.mcs_ever_chain.specs.declared.look.Kept.{Kept}
use Rattle.mcs_ever_chain.specs.declared.look.Look.{Look}
use Rattle.mcs_ever_chain.specs.declared.told.ChainTold.{ChainTold}
use Rattle.mcs_ever_chain.specs.Recurs.{StandAlone}
use Rattle.mcs_ever_chain.specs.Sets.{SetRecurs}
use Rattle.mcs_ever_chain.specs.Told.{IsToldOfChain}
use Rattle.mcs_ever_chain.specs.stored.Counts.{AreWhole}
use Rattle.mcs_ever_chain.specs.stored.Runs.{counts_of, left_at}

-- the set recurs, and has the thread of the chain and the notification of its source; no signal is
-- under way for longer than the floor
pub record IsHome (system : System) (chain : ChainPart) (home : Home) : Type 0 where
  pub recurs : SetRecurs system home.set home.period
  pub from : home.period.from ≤ home.floor
  pub delays : (maker core : ℕ) → delay_between system maker core ≤ home.floor
  pub answerer : has home.set (core_of system (thread_part system chain.thread)) ≡ true
  pub source : has home.set (note_part system (source_part system chain.source).note).core ≡ true

-- each turn of the set between two moments stands alone
abbrev pub TurnsStandAlone : System → List Bool → ℕ → ℕ → Type 0
TurnsStandAlone system set from to =
    (t c : ℕ) → from ≤ t → t < to → c < system.cores → has set c ≡ true → StandAlone (has set) (turn_of system c t).rows

-- the chain before a moment, which is no earlier than the floor
pub record IsKept (system : System) (chain : ChainPart) (home : Home) (kept : Kept) : Type 0 where
  pub floor : home.floor ≤ kept.at
  pub state : kept.state ≡ state_of system chain (past_before system kept.at)
  pub counts : kept.counts ≡ counts_of system chain (past_before system kept.at)

-- so was the kept moment; each turn since then, up to moment t, stands alone
pub record IsKeptSince (system : System) (chain : ChainPart) (home : Home) (alone : Bool) (t : ℕ) (kept : Kept) : Type 0 where
  pub is : IsKept system chain home kept
  pub in_order : kept.at ≤ t
  pub turns : alone ≡ true → TurnsStandAlone system home.set kept.at t

-- at each horizon before moment t the deadline of the chain has not passed without an answer
abbrev pub IsInTime : System → ChainPart → Bool → ℕ → Type 0
IsInTime system chain late t = late ≡ false → (h : ℕ) → h < t → left_at system chain (h + 1) h ≡ None

-- the look at a chain: the turns up to moment t were taken, and each horizon before moment s was
-- looked at
pub record IsLook (system : System) (t s : ℕ) (look : Look) : Type 0 where
  pub chain : ChainPart
  pub is : slice_get system.chains look.chain ≡ Some chain
  pub home : IsHome system chain look.home
  pub late : IsInTime system chain look.late s
  pub kept : IfSome look.kept (IsKeptSince system chain look.home look.alone t)

-- the chain is before a moment that no turn was taken since
pub record IsNow (system : System) (l : Look) (now : Kept) : Type 0 where
  pub clock : ℕ
  pub look : IsLook system clock clock l
  pub past : now.at ≤ clock
  pub is : IsKept system look.chain l.home now

-- the kept moment and this one; each turn between stands alone
pub record IsPair (system : System) (l : Look) (before now : Kept) : Type 0 where
  pub chain : ChainPart
  pub is : slice_get system.chains l.chain ≡ Some chain
  pub home : IsHome system chain l.home
  pub late : IsInTime system chain l.late now.at
  pub is_before : IsKept system chain l.home before
  pub is_now : IsKept system chain l.home now
  pub turns : TurnsStandAlone system l.home.set before.at now.at

-- a period later, all is later
pub record IsFound (system : System) (l : Look) (before now : Kept) : Type 0 where
  pub pair : IsPair system l before now
  pub period : before.at + l.home.period.ticks ≡ now.at
  pub steps : StepsAreSame system (has l.home.set) before.state.gone now.state.gone
  pub later : AreLater system (has l.home.set) l.home.period.ticks before.state.origins now.state.origins
  pub whole : AreWhole before.counts now.counts

abbrev pub AreLooks : System → ℕ → ℕ → List Look → Type 0
AreLooks system t s looks = (i : ℕ) (d : Look) → i < length looks → IsLook system t s (get_or looks i d)

-- the first looks are as far as one moment, and the others as far as another
abbrev pub AreLooksTo : System → ℕ → ℕ → ℕ → ℕ → List Look → ℕ → Type 0
AreLooksTo system t s u v looks many =
    (i : ℕ) (d : Look) → i < length looks → (i < many → IsLook system u v (get_or looks i d)) × (many ≤ i → IsLook system t s (get_or looks i d))

-- the result of chain n
pub record IsResult (system : System) (horizon n : ℕ) (told : ChainTold) : Type 0 where
  pub chain : told.chain ≡ n
  pub so : IsToldOfChain system horizon told

pub record AreResults (system : System) (horizon : ℕ) (told : List (Option ChainTold)) : Type 0 where
  pub many : length told ≡ length system.chains
  pub each : (n : ℕ) → IfSome (get_or told n None) (IsResult system horizon n)
