use Rattle.mcs_ever.proofs.Repeats.{tests-are-forever}
use Rattle.mcs_ever.proofs.laws.tests_are_forever.Goals as goal

pub returns : goal.returns
returns c = tests-are-forever
