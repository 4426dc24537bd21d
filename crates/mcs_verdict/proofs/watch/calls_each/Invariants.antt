use Rattle.std.proofs.Common.{◌≡◌, drop}
use Rattle.std.specs.List.{list_all}
use Rattle.mcs_verdict.proofs.Called.{called}
use Rattle.mcs_verdict.proofs.watch.calls_each.Given as goal

abbrev pub invariant-loop-tracked : goal.invariant-loop-tracked
invariant-loop-tracked l = list_all (called l.note l.word) (drop l.tracked-index l.accounts) ≡ list_all (called l.note l.word) l.accounts
