use Rattle.std.proofs.Common.{◌+◌, sym, subst, ◌∙◌, refl, rules}
use Rattle.mcs_ticks.specs.Queue.{rest_of}
use Rattle.mcs_core.specs.Core.{Core, context_of}
use Rattle.mcs_core.specs.stored.Ends.{IsEnd}
use Rattle.mcs_core.specs.stored.Sound.Phase.{PastTick}
use Rattle.mcs_system.specs.System.{thread_part}
use Rattle.mcs_core.proofs.Ends.{chosen-short, unspent, goes-ends, never-ends, nothing-ready}
use Rattle.mcs_core.proofs.Released.{best-placed}
use Rattle.mcs_core.proofs.Systems.{one-each}
use Rattle.mcs_core.proofs.local.Local.choose.Goals as goal

pub next_end-requires-clause-unspent : goal.next_end-requires-clause-unspent
next_end-requires-clause-unspent g c =
    unspent c.args.here.now.system.now c.args.here.now.core (c.args.here.now.moment + 1) (one-each c.args.here.now.system.now c.requires.well_formed) PastTick c.args.self.now refl c.requires.sound

pub start-ends-requires-clause-known : goal.start-ends-requires-clause-known
start-ends-requires-clause-known g c =
    rw (c.take_best.ensures.left, c.requires.sound.threads)
    (best-placed c.args.here.now.system.now c.args.here.now.core (c.args.here.now.moment + 1) PastTick c.in-Some.thread c.args.self.now c.requires.sound (sym c.take_best.ensures.taken ∙ c.in-Some.is)).known

pub start-ends-requires-clause-part : goal.start-ends-requires-clause-part
start-ends-requires-clause-part g c =
    (best-placed c.args.here.now.system.now c.args.here.now.core (c.args.here.now.moment + 1) PastTick c.in-Some.thread c.args.self.now c.requires.sound (sym c.take_best.ensures.taken ∙ c.in-Some.is)).known

pub start-ends-requires-clause-has : goal.start-ends-requires-clause-has
start-ends-requires-clause-has g c =
    rw c.take_best.ensures.left
    (best-placed c.args.here.now.system.now c.args.here.now.core (c.args.here.now.moment + 1) PastTick c.in-Some.thread c.args.self.now c.requires.sound (sym c.take_best.ensures.taken ∙ c.in-Some.is)).has

pub returns-then-is_some-clause-ends : goal.returns-then-is_some-clause-ends
returns-then-is_some-clause-ends g c =
    goes-ends c.args.here.now.system.now (c.args.here.now.moment + 1) c.args.self.now c.next_end.result (search rules) c.requires.holds (search rules)

pub returns-in_default-clause-ends : goal.returns-in_default-clause-ends
returns-in_default-clause-ends g c =
    let P : Core → Type 0 = λ k. IsEnd c.args.here.now.system.now (c.args.here.now.moment + 1) k c.never.result in
    subst P (sym c.take_best.ensures.left)
    (rw c.never.ensures
    (never-ends c.args.here.now.system.now (c.args.here.now.moment + 1) (record c.args.self.now { ready = rest_of c.args.self.now.ready }) (search rules)
    (nothing-ready c.args.self.now.ready (sym c.take_best.ensures.taken ∙ c.in_default.is))))

pub start-ends-requires-clause-few : goal.start-ends-requires-clause-few
start-ends-requires-clause-few g c =
    let p = best-placed c.args.here.now.system.now c.args.here.now.core (c.args.here.now.moment + 1) PastTick c.in-Some.thread c.args.self.now c.requires.sound (sym c.take_best.ensures.taken ∙ c.in-Some.is) in
    let k = (thread_part c.args.here.now.system.now c.in-Some.thread).context in
    rw c.take_best.ensures.left
    (chosen-short c.args.here.now.system.now k c.args.here.now.moment (context_of c.args.self.now k) (c.requires.sound.budgets k p.has))
