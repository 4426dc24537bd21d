-- Threads and chains with a deadline.
use Rattle.std.specs.Prelude.{ℕ, Bool, ◌==◌, not, List, count_by}
use Rattle.mcs_system.specs.declared.part.ChainPart.{ChainPart}
use Rattle.mcs_system.specs.declared.part.ThreadPart.{ThreadPart}

-- a deadline of 0 means that there is none
abbrev pub has_deadline : ThreadPart → Bool
has_deadline part = not (part.deadline == 0)

abbrev pub has_chain_deadline : ChainPart → Bool
has_chain_deadline chain = not (chain.deadline == 0)

-- how many of these threads, and of these chains, have a deadline
abbrev pub thread_deadlines : List ThreadPart → ℕ
thread_deadlines threads = count_by has_deadline threads

abbrev pub chain_deadlines : List ChainPart → ℕ
chain_deadlines chains = count_by has_chain_deadline chains
