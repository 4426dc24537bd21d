use Rattle.std.proofs.Common.{◌≡◌, ap, subst, arith}
use Rattle.mcs_system.specs.declared.part.SystemParts.{SystemParts}
use Rattle.mcs_system.specs.stored.Delays.{IsLeastAmong, From}
use Rattle.mcs_system.proofs.Least.{least_of_all, least_within}
use Rattle.mcs_system.proofs.system.System.least_delay.Goals as goal

pub returns-clause-least : goal.returns-clause-least
returns-clause-least c =
    let system = c.args.self.now in
    let cores = ap (λ (parts : SystemParts). parts.cores) c.parts-parts.ensures.same in
    let all : c.loop-maker.maker ≡ system.cores = omega (arith, cores, c.loop-maker-test.false, c.loop-maker.auto.maker-end) in
    least_of_all system c.parts-parts.ensures.well_formed c.loop-maker.least (subst (λ n. IsLeastAmong system (From system.cores n) c.loop-maker.least) all c.loop-maker.invariant)

pub returns-clause-range : goal.returns-clause-range
returns-clause-range c =
    let system = c.args.self.now in
    let cores = ap (λ (parts : SystemParts). parts.cores) c.parts-parts.ensures.same in
    let all : c.loop-maker.maker ≡ system.cores = omega (arith, cores, c.loop-maker-test.false, c.loop-maker.auto.maker-end) in
    least_within system c.parts-parts.ensures.well_formed c.loop-maker.least (subst (λ n. IsLeastAmong system (From system.cores n) c.loop-maker.least) all c.loop-maker.invariant)
