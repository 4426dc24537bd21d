use Rattle.mcs_report.proofs.CoreRows.{given_to_a_core}
use Rattle.mcs_report.proofs.laws.given_rows_are_added_by_core.Goals as goal

pub returns : goal.returns
returns c = given_to_a_core
