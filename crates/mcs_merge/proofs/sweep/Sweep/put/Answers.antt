use Rattle.std.proofs.Common.{◌≡◌, ◌-◌, ◌<◌, length, sym, arith}
use Rattle.mcs_merge.specs.stored.Sweep.{Sweep}
use Rattle.mcs_merge.proofs.Sweeps.{before-is, put-is}
use Rattle.mcs_merge.proofs.sweep.Sweep.put.Goals as goal

pub returns-clause-put : goal.returns-clause-put
returns-clause-put c =
    let old : Sweep = record { sets = c.self.inside.sets; start = c.self.inside.start; at = c.self.inside.at; end = c.self.inside.end } in
    let found = before-is old.end c.in-Some.moment c.args.next c.in-Some.ensures in
    let place = c.get-3.result - c.get-4.result in
    let long : length c.self.inside.sets ≡ 256 = search arith in
    let early : c.in-Some.moment < c.self.inside.end = found.1 in
    let few = c.self.invariant.few in
    rw (sym c.self.view_is, found.0)
    (put-is old c.args.core c.in-Some.moment place c.requires early
    (omega (arith, c.get.ensures.value, c.get-2.ensures.value, c.if-get-self.false))
    (omega (arith, c.get-3.ensures.value, c.get-4.ensures.value))
    (omega (arith, long, c.get-3.ensures.value, c.get-4.ensures.value)))
