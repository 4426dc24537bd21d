use Rattle.std.proofs.Common.{ℕ, get_or, sym, ap, ◌∙◌, rules}
use Rattle.mcs_core.specs.Core.{Core}
use Rattle.mcs_ever.specs.Later.{later_threads, later_contexts}
use Rattle.mcs_ever_again.proofs.Cores.{later-by-parts}
use Rattle.mcs_ever_again.proofs.image.CoreImage.lags.Goals as goal

pub returns-in_default : goal.returns-in_default
returns-in_default c = λ shift by later.
    let told = rw (c.in_default.is, c.deref.ensures.value, c.deref-2.ensures.value) at (c.in_ok-threads.ensures 0) in
    told shift.threads shift.rounds
    (ap (λ (core : Core). core.threads) (c.self.view_is ∙ later.same)
    ∙ ap (λ (core : Core). later_threads shift.threads shift.rounds 0 core.threads) (sym c.before-2.view_is))

pub returns : goal.returns
returns c =
    let queues = c.queues_are_later.ensures.0 (search rules) in
    let threads = rw (c.in-Some.is, c.deref.ensures.value, c.deref-2.ensures.value) at (c.in_ok-threads.ensures c.args.by) in
    let contexts = rw (c.in-Some-2.is, c.deref-3.ensures.value, c.deref-4.ensures.value) at c.in_ok-contexts.ensures in
    let since = λ (thread : ℕ). get_or c.in-Some.threads.since.items thread c.args.by in
    let rounds = λ (thread : ℕ). get_or c.in-Some.threads.rounds.items thread 0 in
    let lags = λ (context : ℕ). get_or c.in-Some-2.contexts.items context c.args.by in
    rw (c.new.ensures, c.new-2.ensures, c.new-3.ensures)
    (record {
      lags = contexts.0;
      same = later-by-parts _ c.args.before.now c.args.self.now
          queues.0
          (ap (λ (core : Core). core.threads) (sym c.self.view_is) ∙ threads ∙ ap (λ (core : Core). later_threads since rounds 0 core.threads) c.before-2.view_is)
          queues.1
          queues.2
          (ap (λ (core : Core). core.contexts) (sym c.self.view_is) ∙ contexts.1 ∙ ap (λ (core : Core). later_contexts lags 0 core.contexts) c.before-2.view_is)
          queues.3;
    })
