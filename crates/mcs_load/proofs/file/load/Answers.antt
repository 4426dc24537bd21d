use Rattle.std.proofs.Common.{subst}
use Rattle.toml.specs.View.{table_view}
use Rattle.mcs_system.specs.declared.part.SystemParts.{SystemParts}
use Rattle.mcs_system.specs.WellFormed.{IsWellFormed}
use Rattle.mcs_load.proofs.WellFormed.{walk_passed}
use Rattle.mcs_load.proofs.file.load.Goals as goal

pub new-requires : goal.new-requires
new-requires c =
    let P : SystemParts → Type 0 = λ s. IsWellFormed s in
    subst P c.in_ok-parts.ensures.1 (walk_passed (table_view c.in_ok-table.table) c.in_ok-parts.ensures.0)
