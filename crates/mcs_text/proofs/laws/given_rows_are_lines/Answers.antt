use Rattle.mcs_text.proofs.Givens.{given_are_lines}
use Rattle.mcs_text.proofs.laws.given_rows_are_lines.Goals as goal

pub returns : goal.returns
returns c = given_are_lines
