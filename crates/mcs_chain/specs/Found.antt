-- What is found of all chains of a system, by the rows so far, the latest first.
use Rattle.std.specs.Prelude.{ℕ, suc, ◌+◌, List, [], ◌∷◌, ◌++◌, Option, Some, None}
use Rattle.mcs_ticks.specs.declared.row.Row.{Row}
use Rattle.mcs_system.specs.declared.part.ChainPart.{ChainPart}
use Rattle.mcs_system.specs.System.{System, core_of, thread_part}
use Rattle.mcs_chain.specs.declared.finding.Finding.{Finding}
use Rattle.mcs_chain.specs.declared.finding.Found.{Found}
use Rattle.mcs_chain.specs.Answers.{judged, slow, unanswered}

-- a finding of chain n, with its moment and core
abbrev pub found_at : ℕ → ℕ → ℕ → Option Finding → List Found
found_at moment core n None = []
found_at moment core n (Some finding) = record { moment = moment; core = core; chain = n; finding = finding } ∷ []

-- the slow answers of chain n, the earliest first
abbrev pub slow_in : System → ℕ → ChainPart → List Row → List Found
slow_in system n chain [] = []
slow_in system n chain (r ∷ past) = slow_in system n chain past ++ found_at r.moment r.core n (slow system chain past r)

-- those of the chains from number n on, chain by chain
abbrev pub all_slow : System → List Row → ℕ → List ChainPart → List Found
all_slow system past n [] = []
all_slow system past n (chain ∷ chains) = slow_in system n chain past ++ all_slow system past (suc n) chains

-- the chains from number n on that have at the horizon an origin without an answer, at least a
-- deadline old
abbrev pub all_unanswered : System → List Row → ℕ → ℕ → List ChainPart → List Found
all_unanswered system past horizon n [] = []
all_unanswered system past horizon n (chain ∷ chains) =
    found_at horizon (core_of system (thread_part system chain.thread)) n (unanswered system chain past horizon)
    ++ all_unanswered system past horizon (suc n) chains

-- how many answers of these chains are judged
abbrev pub all_judged : System → List Row → List ChainPart → ℕ
all_judged system past [] = 0
all_judged system past (chain ∷ chains) = judged system chain past + all_judged system past chains
