-- The names of chains.
use Rattle.std.specs.Prelude.{ℕ, get_or}
use Rattle.mcs_fields.specs.Fields.{Text}
use Rattle.mcs_system.specs.System.{System}
use Rattle.mcs_hints.specs.Chains.{no_chain}

abbrev pub chain_name : System → ℕ → Text
chain_name system n = (get_or system.chains n no_chain).name
