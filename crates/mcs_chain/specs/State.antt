-- What is compared of a chain at two moments.
use Rattle.std.specs.Prelude.{List}
use Rattle.mcs_ticks.specs.declared.row.Row.{Row}
use Rattle.mcs_system.specs.declared.part.ChainPart.{ChainPart}
use Rattle.mcs_system.specs.System.{System}
use Rattle.mcs_chain.specs.declared.step.Gone.{Gone}
use Rattle.mcs_chain.specs.Answers.{gone_after, origins}
use Rattle.mcs_chain.specs.Origins.{Origins}

-- how far each thread is, and the chain's origins
pub record State : Type 0 where
  pub gone : List Gone
  pub origins : Origins

-- after these rows, the latest first
abbrev pub state_of : System → ChainPart → List Row → State
state_of system chain past = record { gone = gone_after system past; origins = origins system chain past }
