use Rattle.std.proofs.Common.{◌<◌, length, arith, ap, ◌∙◌}
use Rattle.mcs_verdict.specs.declared.account.Account.{Account}
use Rattle.mcs_verdict.specs.Misses.{set_at}
use Rattle.mcs_verdict.specs.Words.{firsts_of, word_for}
use Rattle.mcs_verdict.specs.Watch.{Watch}
use Rattle.mcs_verdict.proofs.Kept.{word_told, word_unknown}
use Rattle.mcs_verdict.proofs.watch.Watch.word_set.Goals as goal

pub returns-then-thread-len : goal.returns-then-thread-len
returns-then-thread-len c system past e =
    let a = ap (λ (watch : Watch). watch.accounts) (c.self.view_is ∙ e) in
    let w = ap (λ (watch : Watch). watch.words) (c.self.view_is ∙ e) in
    let has : c.thread.inside.0 < length c.self.inside.accounts.items = omega (arith, c.if-thread-len.true, c.len.ensures) in
    word_told system past c.self.inside.accounts.items c.thread.inside.0 c.args.thread c.index.result.now c.word_for-held.result c.set_at.result
    c.thread.view_is a has c.index.ensures (c.word_for-held.ensures (firsts_of system) past (c.as_slice.ensures.value ∙ w) ∙ ap (λ (d : Account). word_for (firsts_of system) d.waits past) c.account-account.ensures)
    (c.set_at.ensures ∙ ap (λ (d : Account). set_at d.bits c.word_for-held.result) c.account-account.ensures)

pub returns-else-thread-len : goal.returns-else-thread-len
returns-else-thread-len c system past e =
    let a = ap (λ (watch : Watch). watch.accounts) (c.self.view_is ∙ e) in
    word_unknown system past c.self.inside.accounts.items c.args.thread a (omega (arith, c.thread.view_is, c.if-thread-len.false, c.len.ensures))
