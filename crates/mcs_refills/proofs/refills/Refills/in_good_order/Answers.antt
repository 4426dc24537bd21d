use Rattle.std.proofs.Common.{length, refl, subst}
use Rattle.mcs_refills.specs.Server.{Server, dates_of}
use Rattle.mcs_refills.specs.laws.Servers.{IsServer}
use Rattle.mcs_refills.proofs.Servers.{in-good-order}
use Rattle.mcs_refills.proofs.refills.Refills.in_good_order.Goals as goal

pub returns : goal.returns
returns c =
    let P : Server → Type 0 = λ server. IsServer (length server.dates) server in
    subst P c.self.view_is
    (in-good-order (record { dates = dates_of c.self.inside.line.items; period = c.self.inside.period; max_refills = c.self.inside.max_refills; room = c.self.inside.line.capacity })
    c.self.inside.line.items c.self.invariant.kept refl)
