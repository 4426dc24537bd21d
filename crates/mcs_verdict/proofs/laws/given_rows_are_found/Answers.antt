use Rattle.mcs_verdict.proofs.Givens.{given_to_a_finder}
use Rattle.mcs_verdict.proofs.laws.given_rows_are_found.Goals as goal

pub returns : goal.returns
returns c = given_to_a_finder
