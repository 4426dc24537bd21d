use Rattle.mcs_text.proofs.Parts.{text-grows}
use Rattle.mcs_text.proofs.laws.given_rows_are_text.Goals as goal

pub returns : goal.returns
returns c = text-grows
