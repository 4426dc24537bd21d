use Rattle.mcs_report.proofs.Given.{given_to_a_tally}
use Rattle.mcs_report.proofs.laws.given_rows_are_added.Goals as goal

pub returns : goal.returns
returns c = given_to_a_tally
