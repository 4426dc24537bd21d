use Rattle.std.proofs.Common.{◌≡◌, ◌≤◌, ◌∷◌, length, drop}
use Rattle.mcs_refills.specs.laws.Apart.{AreApart, last_end}
use Rattle.mcs_refills.specs.stored.Refills.{with_reached, after_unblock}
use Rattle.mcs_refills.proofs.steps.unblock_list.Given as goal

abbrev pub invariant-joins : goal.invariant-joins
invariant-joins l = record {
  some : 1 ≤ length l.refills.items;
  capacity : l.refills.capacity ≡ l.fn.refills.capacity;
  apart : AreApart (record { begins = 0; amount = l.amount } ∷ drop 1 l.refills.items);
  end : last_end (record { begins = 0; amount = l.amount } ∷ drop 1 l.refills.items) ≤ last_end l.fn.refills.items;
  same : with_reached l.t l.amount (drop 1 l.refills.items) ≡ after_unblock l.t l.fn.refills.items;
}

abbrev pub decreases-joins : goal.decreases-joins
decreases-joins l = length l.refills.items
