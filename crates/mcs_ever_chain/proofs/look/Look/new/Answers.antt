use Rattle.std.proofs.Common.{arith}
use Rattle.mcs_ever_chain.proofs.look.Look.new.Goals as goal

pub returns : goal.returns
returns c = λ system part at home.
    record { chain = part; is = at; home = home; late = λ early h before. absurd (omega (arith, before)); kept = tt }
