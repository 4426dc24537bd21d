use Rattle.std.proofs.Common.{ℕ, List, ap, ◌∙◌, arith}
use Rattle.circular_buffer.specs.Buffer.{Buffer}
use Rattle.mcs_refills.specs.declared.refill.Refill.{Refill}
use Rattle.mcs_refills.specs.Server.{Server, dates_of, server_charged}
use Rattle.mcs_refills.proofs.Heads.{moment-shown, amount-shown}
use Rattle.mcs_refills.proofs.Charges.{IsKept-charge, dates_of-after_charge}
use Rattle.mcs_refills.proofs.refills.Refills.charge.Goals as goal

pub charge_list-requires-clause-in_head : goal.charge_list-requires-clause-in_head
charge_list-requires-clause-in_head c = omega (arith, c.requires.in_head, amount-shown c.self.inside.line.items c.args.self.now.dates c.self.invariant.kept.apart (ap (λ (v : Server). v.dates) c.self.view_is))

pub charge_list-requires-clause-early : goal.charge_list-requires-clause-early
charge_list-requires-clause-early c = omega (arith, c.requires.early, moment-shown c.self.inside.line.items c.args.self.now.dates c.self.invariant.kept.apart (ap (λ (v : Server). v.dates) c.self.view_is))

pub invariant_of-self : goal.invariant_of-self
invariant_of-self c = rw c.charge_list.ensures (record {
  kept = IsKept-charge c.args.ticks c.args.min_budget c.self.inside.period c.self.inside.max_refills c.self.inside.line.items c.requires.some
      (omega (arith, c.requires.in_head, amount-shown c.self.inside.line.items c.args.self.now.dates c.self.invariant.kept.apart (ap (λ (v : Server). v.dates) c.self.view_is)))
      (omega (arith, c.requires.early, moment-shown c.self.inside.line.items c.args.self.now.dates c.self.invariant.kept.apart (ap (λ (v : Server). v.dates) c.self.view_is)))
      c.self.invariant.kept;
  fits = c.self.invariant.fits;
})

pub returns : goal.returns
returns c =
    let server : List ℕ → ℕ → Server = λ ds room. record { dates = ds; period = c.self.inside.period; max_refills = c.self.inside.max_refills; room = room } in
    ap (λ (b : Buffer Refill). server (dates_of b.items) b.capacity) c.charge_list.ensures
    ∙ ap (λ ds. server ds c.self.inside.line.capacity)
    (dates_of-after_charge c.args.ticks c.args.min_budget c.self.inside.period c.self.inside.max_refills c.self.inside.line.items c.requires.some
    (omega (arith, c.requires.in_head, amount-shown c.self.inside.line.items c.args.self.now.dates c.self.invariant.kept.apart (ap (λ (v : Server). v.dates) c.self.view_is))) c.self.invariant.kept)
    ∙ ap (server_charged c.args.ticks c.args.min_budget) c.self.view_is
