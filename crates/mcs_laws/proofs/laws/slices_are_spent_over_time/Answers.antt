use Rattle.mcs_laws.proofs.Slices.{slices-charged, slices-spent}
use Rattle.mcs_laws.proofs.Told.{schedules-tell}
use Rattle.mcs_laws.proofs.laws.slices_are_spent_over_time.Goals as goal

pub returns-clause-told : goal.returns-clause-told
returns-clause-told c = schedules-tell

pub returns-clause-charges : goal.returns-clause-charges
returns-clause-charges c = slices-charged

pub returns-clause-full_slices : goal.returns-clause-full_slices
returns-clause-full_slices c = slices-spent
