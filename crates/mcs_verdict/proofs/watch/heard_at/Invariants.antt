use Rattle.std.proofs.Common.{◌≡◌, drop, Some}
use Rattle.std.specs.Prelude.{fold}
use Rattle.mcs_verdict.specs.Words.{hears}
use Rattle.mcs_verdict.proofs.watch.heard_at.Given as goal

abbrev pub invariant-loop-part : goal.invariant-loop-part
invariant-loop-part l = fold (hears l.note) l.bits (drop l.part-index l.threads) ≡ fold (hears l.note) (Some 0) l.threads
