use Rattle.std.proofs.Common.{◌*◌, ◌-◌, inl, inr, arith}
use Rattle.std.proofs.lemmas.Bool.{cases_lt}
use Rattle.mcs_ready.proofs.Marks.{has-highest, has_above}
use Rattle.mcs_ready.proofs.priorities.highest_below.Goals as goal

pub returns-then-bits-ne0 : goal.returns-then-bits-ne0
returns-then-bits-ne0 c = (
  has-highest _ _ _ c.ilog2.ensures.bound c.ilog2.ensures.power_le c.ilog2.ensures.next_power_gt,
  λ q above below. elim (cases_lt q (c.loop-word.word * 64)) [
    | inl within ↦ has_above _ (c.loop-word.word - 1) _ q c.ilog2.ensures.next_power_gt above (omega arith)
    | inr past ↦ c.loop-word.invariant q past below
  ],
)
