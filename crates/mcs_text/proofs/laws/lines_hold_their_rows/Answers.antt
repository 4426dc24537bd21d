use Rattle.mcs_text.proofs.Moments.{lines-hold}
use Rattle.mcs_text.proofs.laws.lines_hold_their_rows.Goals as goal

pub returns : goal.returns
returns c = lines-hold
