-- Files of which a check can judge nothing: they have no thread, or no deadline.
use Rattle.std.specs.Prelude.{Bool, ◌==◌, ◌||◌, not, if◌then◌else◌, List, [], ◌∷◌, Option, Some, None}
use Rattle.std.specs.List.{list_any}
use Rattle.mcs_system.specs.declared.part.ChainPart.{ChainPart}
use Rattle.mcs_system.specs.declared.part.ThreadPart.{ThreadPart}
use Rattle.mcs_hints.specs.declared.hint.Hint.{Hint}
use Rattle.mcs_hints.specs.declared.hint.Hint.TheVariants.{NoThread, NoDeadline}

-- a thread has a deadline; a deadline of 0 means that there is none
abbrev pub has_deadline : List ThreadPart → Bool
has_deadline threads = list_any (λ part. not (part.deadline == 0)) threads

-- a chain has a deadline
abbrev pub has_chain_deadline : List ChainPart → Bool
has_chain_deadline chains = list_any (λ chain. not (chain.deadline == 0)) chains

abbrev pub nothing_to_judge : List ThreadPart → List ChainPart → Option Hint
nothing_to_judge [] chains = Some NoThread
nothing_to_judge (part ∷ parts) chains = if has_deadline (part ∷ parts) || has_chain_deadline chains then None else Some NoDeadline
