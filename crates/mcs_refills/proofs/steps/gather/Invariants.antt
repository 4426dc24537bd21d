use Rattle.std.proofs.Common.{◌≡◌, ◌≤◌, ◌∷◌, length, drop}
use Rattle.mcs_refills.specs.laws.Apart.{AreApart, last_end}
use Rattle.mcs_refills.specs.Server.{enough}
use Rattle.mcs_refills.proofs.steps.gather.Given as goal

abbrev pub invariant-joins : goal.invariant-joins
invariant-joins l = record {
  some : 1 ≤ length l.refills.items;
  capacity : l.refills.capacity ≡ l.fn.refills.capacity;
  apart : AreApart (l.head ∷ drop 1 l.refills.items);
  end : last_end (l.head ∷ drop 1 l.refills.items) ≡ last_end l.fn.refills.items;
  same : enough l.min_budget (l.head ∷ drop 1 l.refills.items) ≡ enough l.min_budget l.fn.refills.items;
}

abbrev pub decreases-joins : goal.decreases-joins
decreases-joins l = length l.refills.items
