use Rattle.std.proofs.Common.{◌≡◌, ◌+◌, ◌<◌, ◌^◌, length, subst, arith, ap, ◌∙◌}
use Rattle.mcs_verdict.specs.declared.account.Account.{Account}
use Rattle.mcs_verdict.specs.Account.{all_kept, unended_by}
use Rattle.mcs_verdict.specs.Words.{firsts_of, word_for}
use Rattle.mcs_verdict.specs.Watch.{Watch}
use Rattle.mcs_verdict.proofs.Kept.{unended_found, unended_unknown}
use Rattle.mcs_verdict.proofs.watch.Watch.unended.Goals as goal

pub returns-then-thread-len : goal.returns-then-thread-len
returns-then-thread-len c system past e up =
    let a = ap (λ (watch : Watch). watch.accounts) (c.self.view_is ∙ e) in
    let w = ap (λ (watch : Watch). watch.words) (c.self.view_is ∙ e) in
    let has : c.thread.inside.0 < length c.self.inside.accounts.items = omega (arith, c.if-thread-len.true, c.len.ensures) in
    unended_found system past c.self.inside.accounts.items c.args.horizon c.thread.inside.0 c.args.thread
    c.index.result.now c.word_for-held.result c.unended.result c.thread.view_is a up (omega (arith, c.get.ensures.value, c.get.ensures.in_range))
    has c.index.ensures (c.word_for-held.ensures (firsts_of system) past (c.as_slice.ensures.value ∙ w) ∙ ap (λ (d : Account). word_for (firsts_of system) d.waits past) c.account-account.ensures)
    (subst (λ (d : Account). all_kept d + c.args.horizon < 2 ^ 64 → c.unended.result ≡ unended_by c.args.horizon c.args.thread c.word_for-held.result d) c.account-account.ensures c.unended.ensures)

pub returns-else-thread-len : goal.returns-else-thread-len
returns-else-thread-len c system past e up =
    let a = ap (λ (watch : Watch). watch.accounts) (c.self.view_is ∙ e) in
    unended_unknown system past c.self.inside.accounts.items c.args.horizon c.args.thread a
    (omega (arith, c.thread.view_is, c.if-thread-len.false, c.len.ensures))
