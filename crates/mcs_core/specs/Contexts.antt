-- The contexts of a core, by number.
use Rattle.std.specs.Prelude.{ℕ, Bool, true, false, List, get_or, Option, Some, None, unwrap_or}
use Rattle.mcs_control.specs.declared.config.Mode.TheVariants.{Sporadic}
use Rattle.mcs_control.specs.Context.{Context}
use Rattle.mcs_control.specs.Context.Budget.{Slice}

-- a placeholder for a context that the core does not hold; it is never reached
abbrev pub no_server : Context
no_server = record { config = record { budget = 0; period = 0; extra = 0 }; mode = Sporadic; budget = Slice 0 }

abbrev pub is_some : Option Context → Bool
is_some None = false
is_some (Some context) = true

-- whether the context is one of the core's
abbrev pub is_own : ℕ → List (Option Context) → Bool
is_own k contexts = is_some (get_or contexts k None)

abbrev pub held : ℕ → List (Option Context) → Context
held k contexts = unwrap_or (get_or contexts k None) no_server
