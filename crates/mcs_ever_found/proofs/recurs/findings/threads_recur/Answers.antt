use Rattle.std.proofs.Common.{◌≡◌, ℕ, true, rules}
use borrow.Author.Count.{below_more}
use Rattle.mcs_system.specs.System.{thread_part, core_of}
use Rattle.mcs_ever.specs.Closed.{has}
use Rattle.mcs_ever_found.specs.Tests.{ThreadRecurs}
use Rattle.mcs_ever_found.proofs.Watches.{skip}
use Rattle.mcs_ever_found.proofs.recurs.findings.threads_recur.Goals as goal

pub loop-thread-preserved-then-not-has_thread : goal.loop-thread-preserved-then-not-has_thread
loop-thread-preserved-then-not-has_thread c =
    let s = c.args.system.now in
    let P : ℕ → Type 0 = λ x. has c.args.group.now (core_of s (thread_part s x)) ≡ true → ThreadRecurs c.args.by c.args.from c.args.before.now c.args.after.now c.args.doings.now c.args.system.now x in
    below_more P c.loop-thread.thread c.loop-thread.invariant (λ own. skip _ _ _ c.has_thread.ensures (search rules) own)

pub loop-thread-preserved : goal.loop-thread-preserved
loop-thread-preserved c =
    let s = c.args.system.now in
    let P : ℕ → Type 0 = λ x. has c.args.group.now (core_of s (thread_part s x)) ≡ true → ThreadRecurs c.args.by c.args.from c.args.before.now c.args.after.now c.args.doings.now c.args.system.now x in
    below_more P c.loop-thread.thread c.loop-thread.invariant (λ own. c.thread_recurs.ensures.0 (search rules))
