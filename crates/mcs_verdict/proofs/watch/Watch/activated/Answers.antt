use Rattle.std.proofs.Common.{◌<◌, length, arith, ap, ◌∙◌}
use Rattle.mcs_verdict.specs.Account.{activated_since}
use Rattle.mcs_verdict.specs.Watch.{Watch}
use Rattle.mcs_verdict.proofs.Kept.{activated_told, activated_unknown}
use Rattle.mcs_verdict.proofs.watch.Watch.activated.Goals as goal

pub returns-then-thread-len : goal.returns-then-thread-len
returns-then-thread-len c system past e up known =
    let a = ap (λ (watch : Watch). watch.accounts) (c.self.view_is ∙ e) in
    let has : c.thread.inside.0 < length c.self.inside.accounts.items = omega (arith, c.if-thread-len.true, c.len.ensures) in
    activated_told system past c.self.inside.accounts.items c.args.moment c.thread.inside.0 c.args.thread c.index.result.now c.activated_since.result
    c.thread.view_is a up has c.index.ensures (c.activated_since.ensures ∙ ap (activated_since c.args.moment) c.account.ensures)

pub returns-else-thread-len : goal.returns-else-thread-len
returns-else-thread-len c system past e up known =
    let a = ap (λ (watch : Watch). watch.accounts) (c.self.view_is ∙ e) in
    absurd (activated_unknown system past c.self.inside.accounts.items c.args.thread a (omega (arith, c.thread.view_is, c.if-thread-len.false, c.len.ensures)) known)
