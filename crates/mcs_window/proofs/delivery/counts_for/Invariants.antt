use Rattle.std.proofs.Common.{◌≡◌, ◌<◌, ℕ, length, take}
use Rattle.std.specs.Prelude.{slice_index}
use Rattle.mcs_window.specs.stored.Delivery.{count_for}
use Rattle.mcs_window.proofs.delivery.counts_for.Given as goal

abbrev pub invariant-loop-mail : goal.invariant-loop-mail
invariant-loop-mail l = record {
  many : length l.counts ≡ 64;
  are : (c : ℕ) → c < 64 → slice_index l.counts c ≡ count_for l.system c (take l.mail-index l.signals);
}
