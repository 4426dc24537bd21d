use Rattle.std.proofs.Common.{◌≡◌, drop}
use Rattle.mcs_check.specs.stored.Rows.{counts_found}
use Rattle.mcs_check.proofs.rest.count_all.Given as goal

abbrev pub invariant-loop-found : goal.invariant-loop-found
invariant-loop-found l = counts_found l.allowed (drop l.found-index l.all) l.counts ≡ counts_found l.allowed l.all l.initial.counts
