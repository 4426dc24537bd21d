-- The values of `at`, as its reader finds them.
use Rattle.std.specs.Prelude.{List, Option, Some, None}
use Rattle.std.specs.Borrow.{Bor}
use Rattle.toml.specs.Data.{Items}
use Rattle.toml.specs.View.{items_view}
use Rattle.toml.specs.declared.value.Value.{Value}
use Rattle.mcs_load.specs.Dates.{zero_alone}

abbrev pub values_or_zero : Option (Bor (List Value)) → Items
values_or_zero None = zero_alone
values_or_zero (Some values) = items_view values.now
