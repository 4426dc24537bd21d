-- The thread or the chain that is asked about, and the number, by the texts that name them.
use Rattle.std.specs.Prelude.{ℕ, ◌≡◌, ◌≢◌, ◌<◌, ◌^◌, ◌&&◌, nat_lt, if◌then◌else◌, List, [], ◌∷◌, length, Option, Some, None, option_map, position, string_bytes, ⊤}
use Rattle.std.specs.Char.{digit_value}
use Rattle.std.specs.List.{list_all}
use Rattle.std.specs.Str.{bytes_eq}
use Rattle.std.specs.Str.Parse.{digits_value, without_leading_plus}
use Rattle.mcs_system.specs.declared.part.ChainPart.{ChainPart}
use Rattle.mcs_system.specs.declared.part.ThreadPart.{ThreadPart}
use Rattle.mcs_system.specs.System.{System}
use Rattle.mcs_cli.specs.declared.fault.RunFault.TheVariants as run
use Rattle.mcs_explain.specs.declared.asked.Asked.{Asked}
use Rattle.mcs_explain.specs.declared.asked.Asked.TheVariants.{Round, Answer, Nobody}
use Rattle.mcs_explain.specs.declared.why_fault.WhyFault.{WhyFault}
use Rattle.mcs_explain.specs.declared.why_fault.WhyFault.TheVariants.{Run, NoThread, NoName, NoRound, NoAnswer}
use Rattle.mcs_check_run.specs.Names.{is_short, nearer}

-- the first thread with the name
abbrev pub thread_named : List ThreadPart → List ℕ → Option ℕ
thread_named threads name = position (λ part. bytes_eq part.name name) threads

-- the first chain with the name
abbrev pub chain_named : List ChainPart → List ℕ → Option ℕ
chain_named chains name = position (λ part. bytes_eq part.name name) chains

-- a round of the thread, if there is one, else an answer of the chain
abbrev pub asked_by : Option ℕ → Option ℕ → Asked
asked_by (Some thread) chain = Round thread
asked_by None (Some chain) = Answer chain
asked_by None None = Nobody

-- the thread or the chain with the name
abbrev pub asked_of : System → List ℕ → Asked
asked_of system name = asked_by (thread_named system.threads name) (chain_named system.chains name)

-- the system has the thread
abbrev pub HasThread : System → Asked → Type 0
HasThread system (Round thread) = thread < length system.threads
HasThread system _ = ⊤

-- the number below 2^64 that digits write, with or without a plus; else 0, which no round and no
-- answer has
abbrev pub round_number : List ℕ → ℕ
round_number text =
    let digits = without_leading_plus text in
    if nat_lt 0 (length digits) && list_all (λ d. nat_lt (digit_value d) 10) digits && nat_lt (digits_value 10 digits) (2 ^ 64)
    then digits_value 10 digits else 0

-- the nearest of a name and the names of these threads
abbrev pub nearest_thread : List ℕ → Option (List ℕ) → List ThreadPart → Option (List ℕ)
nearest_thread name near [] = near
nearest_thread name near (part ∷ parts) = nearest_thread name (Some (nearer name near part.name)) parts

-- the nearest of a name and the names of these chains
abbrev pub nearest_chain : List ℕ → Option (List ℕ) → List ChainPart → Option (List ℕ)
nearest_chain name near [] = near
nearest_chain name near (part ∷ parts) = nearest_chain name (Some (nearer name near part.name)) parts

-- the nearest of the names of the threads and then the chains
abbrev pub nearest_of : System → List ℕ → Option (List ℕ)
nearest_of system name = nearest_chain name (nearest_thread name None system.threads) system.chains

-- the nearest name, if there is one and the given name is short
abbrev pub nearest_name : System → List ℕ → Option (List ℕ)
nearest_name system name = if is_short name then nearest_of system name else None

-- The fault of a name that no thread and no chain has, or that memory ran out. A file without chains
-- is told of its threads only.
abbrev pub IsNobody : System → List ℕ → WhyFault → Type 0
IsNobody system name (NoThread given nearest) =
    (system.chains ≡ []) × (string_bytes given ≡ name) × (option_map string_bytes nearest ≡ nearest_name system name)
IsNobody system name (NoName given nearest) =
    (system.chains ≢ []) × (string_bytes given ≡ name) × (option_map string_bytes nearest ≡ nearest_name system name)
IsNobody system name (Run (run.Sim f)) = ⊤
IsNobody system name _ = ⊥

-- the fault of a round that the thread does not have, or that memory ran out
abbrev pub IsNoRound : List ℕ × List ℕ → ℕ → WhyFault → Type 0
IsNoRound question rounds (NoRound thread round n) =
    (string_bytes thread ≡ question.0) × (string_bytes round ≡ question.1) × (n.0 ≡ rounds)
IsNoRound question rounds (Run (run.Sim f)) = ⊤
IsNoRound question rounds _ = ⊥

-- the fault of an answer that the chain does not have, or that memory ran out
abbrev pub IsNoAnswer : List ℕ × List ℕ → ℕ → WhyFault → Type 0
IsNoAnswer question answers (NoAnswer chain number n) =
    (string_bytes chain ≡ question.0) × (string_bytes number ≡ question.1) × (n.0 ≡ answers)
IsNoAnswer question answers (Run (run.Sim f)) = ⊤
IsNoAnswer question answers _ = ⊥
