use Rattle.std.proofs.Common.{ℕ, List, ap, ◌∙◌}
use Rattle.circular_buffer.specs.Buffer.{Buffer}
use Rattle.mcs_refills.specs.declared.refill.Refill.{Refill}
use Rattle.mcs_refills.specs.Server.{Server, dates_of, server_unblocked}
use Rattle.mcs_refills.specs.stored.Refills.{after_unblock}
use Rattle.mcs_refills.proofs.Unblocks.{IsKept-unblock, dates_of-after_unblock}
use Rattle.mcs_refills.proofs.refills.Refills.unblock.Goals as goal

pub invariant_of-self : goal.invariant_of-self
invariant_of-self c = rw (c.unblock_list.ensures, c.get.ensures.value) (record {
  kept = IsKept-unblock c.args.t c.self.inside.period c.self.inside.max_refills c.self.inside.line.items c.requires c.self.invariant.kept;
  fits = c.self.invariant.fits;
})

pub returns : goal.returns
returns c =
    let server : List ℕ → ℕ → Server = λ ds room. record { dates = ds; period = c.self.inside.period; max_refills = c.self.inside.max_refills; room = room } in
    let room = c.self.inside.line.capacity in
    ap (λ (b : Buffer Refill). server (dates_of b.items) b.capacity) c.unblock_list.ensures
    ∙ ap (λ t. server (dates_of (after_unblock t c.self.inside.line.items)) room) c.get.ensures.value
    ∙ ap (λ ds. server ds room) (dates_of-after_unblock c.args.t c.self.inside.line.items c.self.invariant.kept.apart)
    ∙ ap (server_unblocked c.args.t) c.self.view_is
