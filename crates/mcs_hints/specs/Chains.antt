-- Chains that no signal can complete: whatever the schedule is, no interrupt of the chain's source can come to a job of its thread
-- that answers it.
use Rattle.std.specs.Prelude.{ℕ, zero, suc, ◌*◌, Bool, if◌then◌else◌, List, [], length, fold, get_or, map, Option, Some, None}
use Rattle.mcs_system.specs.declared.part.ChainPart.{ChainPart}
use Rattle.mcs_system.specs.declared.part.SourcePart.{SourcePart}
use Rattle.mcs_system.specs.System.{System, source_part, thread_part}
use Rattle.mcs_hints.specs.declared.hint.Hint.{Hint}
use Rattle.mcs_hints.specs.declared.hint.Hint.TheVariants.{Unreached}
use Rattle.mcs_hints.specs.Carried.{carried_last, is_in_reach, posted, with_script}

-- an interrupt of the source alone: the bits of its badge at its notification
abbrev pub first_words : System → SourcePart → List ℕ
first_words system source = posted source.note source.badge (map (λ _. 0) system.notes)

-- with what the threads' signals may carry on, script by script
abbrev pub carried_on : System → List ℕ → List ℕ
carried_on system words = fold with_script words system.threads

-- after so many passes through all scripts
abbrev pub words_after : System → SourcePart → ℕ → List ℕ
words_after system source zero = first_words system source
words_after system source (suc passes) = carried_on system (words_after system source passes)

-- For each notification, the bits at which its word may ever have an origin. Each word has 32 bits, and a pass that changes any word
-- adds a bit. So after 32 passes for each notification, a further one changes none.
abbrev pub words_of : System → SourcePart → List ℕ
words_of system source = words_after system source (32 * length system.notes)

-- whether a job of the chain's thread may end with an origin that it answers
abbrev pub can_answer : System → ChainPart → Bool
can_answer system chain =
    is_in_reach chain.badges (carried_last (words_of system (source_part system chain.source)) (thread_part system chain.thread))

-- the value past the end of the chains, which is never reached
abbrev pub no_chain : ChainPart
no_chain = record { name = []; source = 0; thread = 0; badges = 0; deadline = 0 }

abbrev pub unreached_by : System → ℕ → ChainPart → Option Hint
unreached_by system chain part = if can_answer system part then None else Some (Unreached chain part.source part.thread)

-- no signal leads from the chain's source to its thread
abbrev pub unreached : System → ℕ → Option Hint
unreached system chain = unreached_by system chain (get_or system.chains chain no_chain)
