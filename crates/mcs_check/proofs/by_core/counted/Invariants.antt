use Rattle.std.proofs.Common.{◌≡◌, drop}
use Rattle.std.specs.Prelude.{fold}
use Rattle.mcs_check_lines.specs.Counts.{together}
use Rattle.mcs_check.specs.stored.Rounds.{are_counted_together}
use Rattle.mcs_check.proofs.by_core.counted.Given as goal

abbrev pub invariant-loop-own : goal.invariant-loop-own
invariant-loop-own l = fold (λ counts own. together counts own.counts) l.counts (drop l.own-index l.watches) ≡ are_counted_together l.watches
