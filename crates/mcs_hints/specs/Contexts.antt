-- Contexts to which no thread is bound, and the utilisation of a context.
use Rattle.std.specs.Prelude.{ℕ, Bool, ◌==◌, ◌*◌, ◌/◌, if◌then◌else◌, List, Option, Some, None}
use Rattle.std.specs.List.{list_any}
use Rattle.mcs_control.specs.declared.config.Config.{Config}
use Rattle.mcs_control.specs.declared.config.Kind.{Kind}
use Rattle.mcs_control.specs.declared.config.Kind.TheVariants.{Sporadic, RoundRobin}
use Rattle.mcs_control.specs.Control.{kind_of}
use Rattle.mcs_system.specs.declared.part.ThreadPart.{ThreadPart}
use Rattle.mcs_system.specs.System.{System, context_part}
use Rattle.mcs_hints.specs.declared.exact.Fraction.{Fraction}
use Rattle.mcs_hints.specs.declared.hint.Hint.{Hint}
use Rattle.mcs_hints.specs.declared.hint.Hint.TheVariants.{Unbound}

-- a thread is bound to the context
abbrev pub is_bound : List ThreadPart → ℕ → Bool
is_bound threads context = list_any (λ thread. thread.context == context) threads

abbrev pub unbound : List ThreadPart → ℕ → Option Hint
unbound threads context = if is_bound threads context then None else Some (Unbound context)

-- budget over period, in millionths, rounded down
abbrev pub millionths : Config → ℕ
millionths config = config.budget * 1000000 / config.period

-- the budget of a round-robin context is a slice, not a share of its core's time
abbrev pub share_by : Kind → Config → ℕ
share_by RoundRobin config = 0
share_by Sporadic config = millionths config

abbrev pub share : Config → ℕ
share config = share_by (kind_of config) config

-- a context without a thread has no utilisation
abbrev pub share_where : Bool → Config → ℕ
share_where bound config = if bound then share config else 0

-- by the configuration of the file: orders do not count
abbrev pub share_of : System → ℕ → ℕ
share_of system context = share_where (is_bound system.threads context) (context_part system context).config

-- the exact utilisation, if there is any
abbrev pub part_by : Kind → Config → Option Fraction
part_by RoundRobin config = None
part_by Sporadic config = Some (record { numerator = config.budget; denominator = config.period })

abbrev pub part_where : Bool → Config → Option Fraction
part_where bound config = if bound then part_by (kind_of config) config else None
