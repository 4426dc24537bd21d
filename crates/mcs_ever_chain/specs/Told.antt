-- What is told of a chain for all time, and what it means.
use Rattle.std.specs.Prelude.{◌≡◌, ℕ, ◌+◌, ◌-◌, ◌≤◌, true, false, List, [], length, get_or, slice_get, ◌<◌, Option, Some, None}
use Rattle.std.specs.List.{AllByRecursion}
use Rattle.mcs_ticks.specs.Capped.{capped}
use Rattle.mcs_ticks.specs.declared.row.Row.{Row}
use Rattle.mcs_system.specs.declared.part.ChainPart.{ChainPart}
use Rattle.mcs_system.specs.System.{System}
use Rattle.mcs_core.specs.Clock.{schedule}
use Rattle.mcs_verdict.specs.Findings.{past_of}
use Rattle.mcs_table.specs.Rounds.{greatest}
use Rattle.mcs_chain.specs.declared.finding.Finding.{Finding}
use Rattle.mcs_chain.specs.Answers.{interrupts, latencies, unanswered}
use Rattle.mcs_chain.specs.Watch.{slow_sum}
use Rattle.mcs_ever_found.specs.laws.Course.{is_at_most}
use Rattle.mcs_ever_told.specs.declared.line.Often.{Often}
use Rattle.mcs_ever_told.specs.declared.line.Often.TheVariants.{SoFar}
use Rattle.mcs_ever_told.specs.declared.outlook.told.Period.{Period}
use Rattle.mcs_ever_told.specs.ForEver.{IsOften}
use Rattle.mcs_ever_told.specs.Lines.{is_some}
use Rattle.mcs_ever_chain.specs.declared.told.ChainTold.{ChainTold}

-- the interrupts without an answer, which are so many, if a deadline has passed without one
abbrev pub left_for : Option Finding → ℕ → Option Often
left_for None many = None
left_for (Some finding) many = Some (SoFar many)

module _ (system : System) (chain : ChainPart) where
  -- the rows up to a horizon, the latest first
  abbrev pub past_up_to : ℕ → List Row
  past_up_to horizon = past_of [] (schedule system horizon)

  -- how many answers there are, and how many interrupts have none: as many as there are more
  abbrev pub many_answers : List Row → ℕ
  many_answers past = length (latencies system chain past)

  abbrev pub many_left : List Row → ℕ
  many_left past = interrupts chain past - many_answers past

  -- in numbers that 64 bits hold
  abbrev pub many_left_held : List Row → ℕ
  many_left_held past = capped (interrupts chain past) - capped (many_answers past)

  -- no answer up to any horizon has a longer latency; without a number there is no answer
  abbrev pub IsNeverLonger : Option ℕ → Type 0
  IsNeverLonger latency =
      (h : ℕ) → AllByRecursion (λ other. is_at_most latency other ≡ true) (latencies system chain (past_up_to h))

  -- up to no horizon an answer is slow, and at none a deadline has passed without an answer
  pub record NothingIsEverLate : Type 0 where
    pub slow : (h : ℕ) → slow_sum system chain (past_up_to h) ≡ 0
    pub unanswered : (h : ℕ) → unanswered system chain (past_up_to h) h ≡ None

  module _ (p : Period) where
    abbrev pub AreLeft : Option Often → Type 0
    AreLeft (Some often) = IsOften system p many_left often
    AreLeft None = Unit {0}

    -- The latency is the maximum up to each horizon from the end of the first period on. The answers,
    -- the slow ones, and the interrupts without an answer are as many in each period. If none is slow
    -- and none is left, nothing is ever late
    pub record ChainRepeats (told : ChainTold) : Type 0 where
      pub longest : IsNeverLonger told.greatest
      pub reached : (h : ℕ) → p.from + p.ticks ≤ h + 1 → greatest (latencies system chain (past_up_to h)) ≡ told.greatest
      pub answers : IsOften system p many_answers told.answers
      pub slow : IsOften system p (slow_sum system chain) told.slow
      pub left : AreLeft told.unanswered
      pub clean : is_some told.slow ≡ false → told.unanswered ≡ None → NothingIsEverLate

  -- what is so up to this horizon
  pub record ChainIsSoFar (horizon : ℕ) (told : ChainTold) : Type 0 where
    pub greatest_is : told.greatest ≡ greatest (latencies system chain (past_up_to horizon))
    pub answers : told.answers ≡ SoFar (capped (many_answers (past_up_to horizon)))
    pub slow : told.slow ≡ SoFar (capped (slow_sum system chain (past_up_to horizon)))
    pub left : told.unanswered ≡ left_for (unanswered system chain (past_up_to horizon) horizon) (many_left_held (past_up_to horizon))

  abbrev pub IsToldBy : ℕ → ChainTold → Option Period → Type 0
  IsToldBy horizon told (Some p) = ChainRepeats p told
  IsToldBy horizon told None = ChainIsSoFar horizon told

-- what is told of a chain of the system, up to this horizon or for ever
pub record IsToldOfChain (system : System) (horizon : ℕ) (told : ChainTold) : Type 0 where
  pub chain : ChainPart
  pub is : slice_get system.chains told.chain ≡ Some chain
  pub so : IsToldBy system chain horizon told told.period

-- each chain is told, in the order of the file
pub record AreChainsTold (system : System) (horizon : ℕ) (told : List ChainTold) : Type 0 where
  pub many : length told ≡ length system.chains
  pub each : (n : ℕ) (d : ChainTold) → n < length told → (get_or told n d).chain ≡ n
  pub so : AllByRecursion (IsToldOfChain system horizon) told
