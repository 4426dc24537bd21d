-- If a chain recurs, its answers are repeated for ever.
use Rattle.std.specs.Prelude.{◌≡◌, ℕ, ◌+◌, ◌-◌, ◌*◌, ◌<◌, ◌≤◌, Bool, true, List, [], length, None}
use Rattle.std.specs.List.{AllByRecursion}
use Rattle.mcs_system.specs.declared.part.ChainPart.{ChainPart}
use Rattle.mcs_system.specs.System.{System, note_part, source_part}
use Rattle.mcs_system.specs.WellFormed.{IsWellFormed}
use Rattle.mcs_core.specs.Clock.{schedule}
use Rattle.mcs_verdict.specs.Findings.{past_of}
use Rattle.mcs_table.specs.Rounds.{greatest}
use Rattle.mcs_chain.specs.Answers.{interrupts, latencies, unanswered}
use Rattle.mcs_chain.specs.Watch.{slow_sum}
use Rattle.mcs_ever.specs.Recurs.{Shifts}
use Rattle.mcs_ever_found.specs.Recurs.{past_before}
use Rattle.mcs_ever_found.specs.laws.Course.{is_at_most}
use Rattle.mcs_ever_chain.specs.Recurs.{ChainRecurs, AnswersRecur}

module _ (system : System) (chain : ChainPart) where
  -- the latencies of the answers before moment t, and of those up to a horizon
  abbrev pub latencies_before : ℕ → List ℕ
  latencies_before t = latencies system chain (past_before system t)

  abbrev pub latencies_up_to : ℕ → List ℕ
  latencies_up_to horizon = latencies system chain (past_of [] (schedule system horizon))

  -- how many answers there are before moment t, how many of them are slow, and how many interrupts
  -- the chain's source made
  abbrev pub answers_before : ℕ → ℕ
  answers_before t = length (latencies_before t)

  abbrev pub slow_before : ℕ → ℕ
  slow_before t = slow_sum system chain (past_before system t)

  abbrev pub interrupts_before : ℕ → ℕ
  interrupts_before t = interrupts chain (past_before system t)

-- in each period as much is added to a count as in the first one
abbrev pub IsAddedInEach : Shifts → ℕ → (ℕ → ℕ) → Type 0
IsAddedInEach shifts from count =
    (k : ℕ) → count (from + (k + 1) * shifts.by) ≡ count (from + k * shifts.by) + (count (from + shifts.by) - count from)

-- so it is with the answers and with the slow ones
abbrev pub AnswersAreAdded : Type 0
AnswersAreAdded =
    (system : System) (chain : ChainPart) (group : ℕ → Bool) (shifts : Shifts) (from : ℕ) → IsWellFormed system →
    chain.thread < length system.threads → ChainRecurs system chain group shifts from →
    IsAddedInEach shifts from (answers_before system chain)

abbrev pub SlowAreAdded : Type 0
SlowAreAdded =
    (system : System) (chain : ChainPart) (group : ℕ → Bool) (shifts : Shifts) (from : ℕ) → IsWellFormed system →
    chain.thread < length system.threads → ChainRecurs system chain group shifts from →
    IsAddedInEach shifts from (slow_before system chain)

-- and with the interrupts, if the source interrupts on a core of the group
abbrev pub InterruptsAreAdded : Type 0
InterruptsAreAdded =
    (system : System) (chain : ChainPart) (group : ℕ → Bool) (shifts : Shifts) (from : ℕ) → IsWellFormed system →
    chain.thread < length system.threads → ChainRecurs system chain group shifts from →
    group (note_part system (source_part system chain.source).note).core ≡ true →
    IsAddedInEach shifts from (interrupts_before system chain)

-- the maximum latency before the end of the first period is the maximum for ever
abbrev pub GreatestIsForever : Type 0
GreatestIsForever =
    (system : System) (chain : ChainPart) (group : ℕ → Bool) (shifts : Shifts) (from : ℕ) → IsWellFormed system →
    chain.thread < length system.threads → ChainRecurs system chain group shifts from →
    (horizon : ℕ) → from + shifts.by ≤ horizon + 1 →
    greatest (latencies_up_to system chain horizon) ≡ greatest (latencies_before system chain (from + shifts.by))

abbrev pub NoneIsLonger : Type 0
NoneIsLonger =
    (system : System) (chain : ChainPart) (group : ℕ → Bool) (shifts : Shifts) (from : ℕ) → IsWellFormed system →
    chain.thread < length system.threads → ChainRecurs system chain group shifts from →
    (horizon : ℕ) →
    AllByRecursion (λ latency. is_at_most (greatest (latencies_before system chain (from + shifts.by))) latency ≡ true)
    (latencies_up_to system chain horizon)

-- if the interrupts without an answer are later, too, and at no horizon before the end of the first
-- period a deadline has passed without an answer, none ever has
abbrev pub NoneIsLeft : Type 0
NoneIsLeft =
    (system : System) (chain : ChainPart) (group : ℕ → Bool) (shifts : Shifts) (from : ℕ) → IsWellFormed system →
    chain.thread < length system.threads → AnswersRecur system chain group shifts from →
    ((horizon : ℕ) → horizon < from + shifts.by → unanswered system chain (past_of [] (schedule system horizon)) horizon ≡ None) →
    (horizon : ℕ) → unanswered system chain (past_of [] (schedule system horizon)) horizon ≡ None

-- if no answer before the end of the first period is slow, none ever is
abbrev pub NoneIsSlow : Type 0
NoneIsSlow =
    (system : System) (chain : ChainPart) (group : ℕ → Bool) (shifts : Shifts) (from : ℕ) → IsWellFormed system →
    chain.thread < length system.threads → ChainRecurs system chain group shifts from →
    slow_before system chain (from + shifts.by) ≡ 0 →
    (horizon : ℕ) → slow_sum system chain (past_of [] (schedule system horizon)) ≡ 0
