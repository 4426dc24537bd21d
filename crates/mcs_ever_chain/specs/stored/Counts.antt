-- Counts of a chain at two moments.
use Rattle.std.specs.Prelude.{◌-◌, ◌^◌, ◌<◌, ◌≤◌}
use Rattle.mcs_ever_chain.specs.declared.often.Counts.{Counts}

-- no count is too great for 64 bits; there are no more answers than interrupts, before the first
-- moment and from it on
pub record AreWhole (before after : Counts) : Type 0 where
  pub interrupts : before.interrupts ≤ after.interrupts
  pub answers : before.answers ≤ after.answers
  pub few_interrupts : after.interrupts < 2 ^ 64 - 1
  pub few_answers : after.answers < 2 ^ 64 - 1
  pub fewer : before.answers ≤ before.interrupts
  pub between : after.answers - before.answers ≤ after.interrupts - before.interrupts
