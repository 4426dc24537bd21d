-- Cores without a thread, and cores whose contexts have a total utilisation above 1.
use Rattle.std.specs.Prelude.{ℕ, max, Bool, ◌==◌, ◌&&◌, if◌then◌else◌, List, length, Option, Some, None}
use Rattle.std.specs.List.{filter, filter_map, list_any, sum_by}
use Rattle.mcs_system.specs.System.{System, context_part, core_of}
use Rattle.mcs_hints.specs.declared.exact.Fraction.{Fraction}
use Rattle.mcs_hints.specs.declared.hint.Hint.{Hint}
use Rattle.mcs_hints.specs.declared.hint.Hint.TheVariants.{Overcommitted, Unused}
use Rattle.mcs_hints.specs.Numbers.{numbers}
use Rattle.mcs_hints.specs.Contexts.{is_bound, share_of, part_where}
use Rattle.mcs_hints.specs.Exact.{is_above_one}

-- a thread is bound to a context of the core
abbrev pub is_used : System → ℕ → Bool
is_used system core = list_any (λ part. core_of system part == core) system.threads

abbrev pub unused : System → ℕ → Option Hint
unused system core = if is_used system core then None else Some (Unused core)

-- the contexts of a core
abbrev pub contexts_on : System → ℕ → List ℕ
contexts_on system core = filter (λ context. (context_part system context).core == core) (numbers (length system.contexts))

-- the exact utilisation of a context of the core
abbrev pub part_of : System → ℕ → ℕ → Option Fraction
part_of system core context =
    let part = context_part system context in
    part_where (part.core == core && is_bound system.threads context) part.config

abbrev pub parts_of : System → ℕ → List Fraction
parts_of system core = filter_map (part_of system core) (numbers (length system.contexts))

-- the total utilisation of a core's contexts in millionths, each share rounded down
abbrev pub granted : System → ℕ → ℕ
granted system core = sum_by (share_of system) (contexts_on system core)

-- The sum is above 1, but its rounded shares may sum to less.
abbrev pub overcommitted : System → ℕ → Option Hint
overcommitted system core =
    if is_above_one (parts_of system core) then Some (Overcommitted core (max 1000001 (granted system core))) else None
