use Rattle.mcs_control.proofs.Helds.{unblocked-held}
use Rattle.mcs_control.proofs.context.Context.wake.Goals as goal

pub invariant_of-self : goal.invariant_of-self
invariant_of-self c =
    unblocked-held c.self.inside.config c.self.inside.mode c.self.inside.room c.args.t c.self.inside.budget c.unblock.new.self c.unblock.ensures c.self.invariant
