use Rattle.std.proofs.Common.{◌≡◌, ◌<◌, arith, rules}
use Rattle.mcs_system.specs.System.{core_of, thread_part}
use Rattle.mcs_system.specs.WellFormed.{IsWellFormed}
use Rattle.mcs_laws.proofs.Homes.{core_of_context}
use Rattle.mcs_ever.proofs.closed.add_maker.Goals as goal

pub add_items-requires-clause-few : goal.add_items-requires-clause-few
add_items-requires-clause-few c =
    let s = c.args.system.now in
    let well : IsWellFormed s = search rules in
    let is : c.core_of_thread-maker.result ≡ core_of s (thread_part s c.args.thread) = search rules in
    let known : core_of s (thread_part s c.args.thread) < s.cores = core_of_context s well (thread_part s c.args.thread).context in
    omega (arith, is, known, well.limits.cores.1)
