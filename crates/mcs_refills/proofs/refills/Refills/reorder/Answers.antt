use Rattle.std.proofs.Common.{ℕ, List, ap, ◌∙◌}
use Rattle.circular_buffer.specs.Buffer.{Buffer}
use Rattle.mcs_refills.specs.declared.refill.Refill.{Refill}
use Rattle.mcs_refills.specs.Server.{Server, dates_of, server_reconfigured}
use Rattle.mcs_refills.specs.stored.Refills.{after_reconfigure}
use Rattle.mcs_refills.proofs.Reconfigures.{dates_of-after_reconfigure}
use Rattle.mcs_refills.proofs.refills.Refills.reorder.Goals as goal

pub returns : goal.returns
returns c =
    let server : List ℕ → ℕ → Server = λ ds room. record { dates = ds; period = c.args.period; max_refills = c.args.max_refills; room = room } in
    let room = c.self.inside.line.capacity in
    ap (λ (b : Buffer Refill). server (dates_of b.items) b.capacity) c.reconfigure_list.ensures
    ∙ ap (λ t. server (dates_of (after_reconfigure t c.args.budget c.args.period c.self.inside.line.items)) room) c.get.ensures.value
    ∙ ap (λ ds. server ds room) (dates_of-after_reconfigure c.args.t c.args.budget c.args.period c.self.inside.line.items c.self.invariant.kept.apart)
    ∙ ap (server_reconfigured c.args.t c.args.budget c.args.period c.args.max_refills) c.self.view_is
