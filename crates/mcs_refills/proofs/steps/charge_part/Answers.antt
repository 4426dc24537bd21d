use Rattle.std.proofs.Common.{arith}
use Rattle.mcs_refills.proofs.Charges.{can_charge}
use Rattle.mcs_refills.proofs.Heads.{begins-first}
use Rattle.mcs_refills.proofs.steps.charge_part.Goals as goal

pub take-requires-clause-early : goal.take-requires-clause-early
take-requires-clause-early c =
    let f = can_charge c.args.ticks c.args.period c.args.max_refills c.args.refills.now.items c.requires.some c.requires.in_head c.requires.kept in
    omega (arith, f.ends)

pub give_back-requires-clause-in_range : goal.give_back-requires-clause-in_range
give_back-requires-clause-in_range c =
    let f = can_charge c.args.ticks c.args.period c.args.max_refills c.args.refills.now.items c.requires.some c.requires.in_head c.requires.kept in
    omega (arith, f.head, c.requires.kept.short, c.requires.early, begins-first c.args.refills.now.items c.first.result c.first.ensures)

pub gather-requires-clause-apart : goal.gather-requires-clause-apart
gather-requires-clause-apart c =
    let f = can_charge c.args.ticks c.args.period c.args.max_refills c.args.refills.now.items c.requires.some c.requires.in_head c.requires.kept in
    rw (c.give_back.ensures, c.take.ensures, begins-first c.args.refills.now.items c.first.result c.first.ensures) f.apart

pub gather-requires-clause-early : goal.gather-requires-clause-early
gather-requires-clause-early c =
    let f = can_charge c.args.ticks c.args.period c.args.max_refills c.args.refills.now.items c.requires.some c.requires.in_head c.requires.kept in
    rw (c.give_back.ensures, c.take.ensures, begins-first c.args.refills.now.items c.first.result c.first.ensures) (omega (arith, f.early, f.head, c.requires.kept.short, c.requires.early))
