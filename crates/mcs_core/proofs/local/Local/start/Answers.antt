use Rattle.std.proofs.Common.{◌≡◌, ℕ, ◌+◌, ◌-◌, ◌≤◌, ◌^◌, sym, subst, rules}
use Rattle.std.specs.Prelude.{Option, Some, min}
use Rattle.mcs_ticks.specs.Queue.{first_of}
use Rattle.mcs_ticks.specs.Soonest.{sooner}
use Rattle.mcs_system.specs.System.{System}
use Rattle.mcs_core.specs.Core.{Core, thread_of}
use Rattle.mcs_core.specs.stored.Ends.{IsEnd, started, better}
use Rattle.mcs_core.proofs.Ends.{started-ends}
use Rattle.mcs_core.proofs.local.Local.start.Goals as goal

pub stand-requires : goal.stand-requires
stand-requires c = rw c.choose_context-head.ensures.core c.requires.known

pub returns-clause-ends : goal.returns-clause-ends
returns-clause-ends c =
    let system : System = c.args.here.now.system.now in
    let t : ℕ = c.args.here.now.moment in
    let ticks : ℕ = min (c.thread-left.result.place.left - 1) (c.choose_context-head.result - 0 - 1) in
    let few = c.requires.few in
    let short : c.choose_context-head.result ≤ 2 ^ 40 = rw c.choose_context-head.ensures.head few in
    let same : c.or-ends.result ≡ sooner (Some (t + 1 + ticks)) (better (thread_of c.args.self.now c.args.thread).place.priority (t + 1) (first_of c.args.self.now.ready)) = search rules in
    let core : started system t c.args.thread c.args.self.now ≡ c.set_running.new.self = search rules in
    let P : Core → Type 0 = λ k. IsEnd system (t + 1) k c.or-ends.result in
    let R : Option ℕ → Type 0 = λ o. IsEnd system (t + 1) (started system t c.args.thread c.args.self.now) o in
    subst P core
    (subst R (sym same)
    (started-ends system t c.args.thread c.thread-left.result.place.left c.choose_context-head.result c.args.self.now c.requires.known c.requires.has c.requires.soon c.choose_context-head.ensures.some (search rules) c.choose_context-head.ensures.head
    short))
