use Rattle.std.proofs.Common.{◌≡◌, length}
use Rattle.mcs_ever_again.specs.Told.{AreAgain}
use Rattle.mcs_ever_again.proofs.recurs.lags.group_lags.Given as goal

abbrev pub invariant-loop-core : goal.invariant-loop-core
invariant-loop-core l = record {
  many : length l.lags.items ≡ l.core;
  each : AreAgain l.system l.by l.group l.before l.after l.lags.items l.core;
}
