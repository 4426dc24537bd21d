use Rattle.mcs_words.proofs.Refusals.{fault_answer}
use Rattle.mcs_words.proofs.words.options.Goals as goal

pub returns-in-Err : goal.returns-in-Err
returns-in-Err c = fault_answer _ _ _ c.in-Err.ensures.parse c.fault_of.ensures
