use Rattle.std.proofs.Common.{◌≡◌, ◌++◌, [], drop}
use Rattle.mcs_table.specs.Table.{accounts_of}
use Rattle.mcs_table.proofs.table.opened_accounts.Given as goal

abbrev pub invariant-loop-part : goal.invariant-loop-part
invariant-loop-part l =
    l.accounts.items ++ accounts_of l.parts l.horizon l.part-index (drop l.part-index l.parts.threads) []
    ≡ accounts_of l.parts l.horizon 0 l.parts.threads []
