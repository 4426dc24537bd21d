use Rattle.std.proofs.Common.{◌≡◌, ◌-◌, ◌^◌, min}
use Rattle.mcs_window.proofs.Counting.{kept_by}
use Rattle.mcs_window.proofs.desk.Desk.kept.Given as goal

abbrev pub invariant-loop-core : goal.invariant-loop-core
invariant-loop-core g l = l.kept ≡ min (kept_by g.S.Collector.amount l.self l.core) (2 ^ 64 - 1)
