-- The answers of a chain, by the rows so far, the latest first, and what is found of it.
use Rattle.std.specs.Prelude.{ℕ, ◌+◌, ◌-◌, min, Bool, false, ◌==◌, ◌&&◌, not, nat_le, if◌then◌else◌, List, [], ◌∷◌, ◌++◌, length, map, count_by, Option, Some, None}
use Rattle.std.specs.List.{reduce}
use Rattle.mcs_ticks.specs.declared.row.Row.{Row}
use Rattle.mcs_ticks.specs.declared.row.What.{What}
use Rattle.mcs_ticks.specs.declared.row.What.TheVariants as row
use Rattle.mcs_system.specs.declared.part.ChainPart.{ChainPart}
use Rattle.mcs_system.specs.System.{System}
use Rattle.mcs_verdict.specs.Misses.{is_above}
use Rattle.mcs_chain.specs.declared.finding.Finding.{Finding}
use Rattle.mcs_chain.specs.declared.finding.Finding.TheVariants.{Slow, Unanswered}
use Rattle.mcs_chain.specs.declared.step.Gone.{Gone}
use Rattle.mcs_chain.specs.Steps.{all_go, all_fresh}
use Rattle.mcs_chain.specs.Moves.{moves}
use Rattle.mcs_chain.specs.Origins.{Origins, no_origins, moved}

-- how far each thread has gone
abbrev pub gone_after : System → List Row → List Gone
gone_after system [] = all_fresh system
gone_after system (r ∷ past) = all_go system r.what (gone_after system past)

-- the sets of origins without an answer
abbrev pub origins : System → ChainPart → List Row → Origins
origins system chain [] = no_origins system
origins system chain (r ∷ past) = moved chain r.moment (moves system (gone_after system past) r) (origins system chain past)

-- the latencies of the answers: each is the time from its origin to the end of the round that answers it
abbrev pub latencies : System → ChainPart → List Row → List ℕ
latencies system chain [] = []
latencies system chain (r ∷ past) =
    map (λ origin. r.moment - origin) (origins system chain (r ∷ past)).answered ++ latencies system chain past

-- how many answers are judged: those of a chain with a deadline
abbrev pub judged : System → ChainPart → List Row → ℕ
judged system chain past = if chain.deadline == 0 then 0 else length (latencies system chain past)

-- how many interrupts the chain's source made
abbrev pub is_interrupt : ℕ → What → Bool
is_interrupt source (row.Interrupt x note badge) = x == source
is_interrupt source _ = false

abbrev pub interrupts : ChainPart → List Row → ℕ
interrupts chain past = count_by (λ r. is_interrupt chain.source r.what) past

-- the earliest of these origins, if there is one
abbrev pub earliest : List ℕ → Option ℕ
earliest origins = reduce min origins

-- the answer for this origin is slow if its latency is above the deadline
abbrev pub slow_for : ℕ → ℕ → Option ℕ → Option Finding
slow_for deadline moment None = None
slow_for deadline moment (Some origin) =
    if is_above deadline (moment - origin) then Some (Slow (moment - origin) deadline origin) else None

-- what is found of a chain with this deadline at a row that answers these origins
abbrev pub slow_of : ℕ → ℕ → List ℕ → Option Finding
slow_of deadline moment answered = slow_for deadline moment (earliest answered)

abbrev pub slow : System → ChainPart → List Row → Row → Option Finding
slow system chain past r = slow_of chain.deadline r.moment (origins system chain (r ∷ past)).answered

-- at the horizon the deadline of this origin has passed
abbrev pub unanswered_for : ℕ → ℕ → Option ℕ → Option Finding
unanswered_for deadline horizon None = None
unanswered_for deadline horizon (Some origin) =
    if not (deadline == 0) && nat_le (origin + deadline) horizon then Some (Unanswered deadline origin) else None

-- what is found at the horizon, if these origins have no answer
abbrev pub unanswered_of : ℕ → ℕ → List ℕ → Option Finding
unanswered_of deadline horizon left = unanswered_for deadline horizon (earliest left)

abbrev pub unanswered : System → ChainPart → List Row → ℕ → Option Finding
unanswered system chain past horizon = unanswered_of chain.deadline horizon (origins system chain past).unanswered
