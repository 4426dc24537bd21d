use Rattle.std.proofs.Common.{◌≡◌, ◌<◌, length, sym, arith}
use Rattle.mcs_merge.specs.stored.Sweep.{Sweep}
use Rattle.mcs_merge.proofs.Sweeps.{taken-is}
use Rattle.mcs_merge.proofs.sweep.Sweep.take.Goals as goal

pub returns : goal.returns
returns c =
    let old : Sweep = record { sets = c.self.inside.sets; start = c.self.inside.start; at = c.self.inside.at; end = c.self.inside.end } in
    let long : length c.self.inside.sets ≡ 256 = search arith in
    let within : c.moments.at < length c.self.inside.sets = omega (arith, long, c.moments.invariant.within) in
    rw (sym c.self.view_is) (taken-is old c.moments.at c.lowest-core.result within c.moments.invariant.later c.moments.invariant.none c.lowest-core.ensures)
