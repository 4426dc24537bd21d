use Rattle.mcs_ever_found.proofs.Words.{words-go-on}
use Rattle.mcs_ever_found.proofs.laws.words_go_on.Goals as goal

pub returns : goal.returns
returns c = words-go-on
