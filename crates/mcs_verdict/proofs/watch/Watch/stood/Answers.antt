use Rattle.std.proofs.Common.{◌≡◌, ◌+◌, ◌<◌, ◌^◌, length, subst, arith, ap, ◌∙◌}
use Rattle.mcs_verdict.specs.declared.account.Account.{Account}
use Rattle.mcs_verdict.specs.Account.{all_kept, total_at}
use Rattle.mcs_verdict.specs.Watch.{Watch}
use Rattle.mcs_verdict.proofs.Kept.{by_place, all-now}
use Rattle.mcs_verdict.proofs.watch.Watch.stood.Goals as goal

pub returns : goal.returns
returns c system past e up =
    let a = ap (λ (watch : Watch). watch.accounts) (c.self.view_is ∙ e) in
    let l : length c.self.inside.accounts.items ≡ length c.args.self.now.accounts = ap (λ (watch : Watch). length watch.accounts) c.self.view_is in
    let v : c.thread.inside.0 ≡ c.args.thread = c.thread.view_is in
    let has : c.thread.inside.0 < length c.self.inside.accounts.items = omega (arith, c.requires, l, v) in
    by_place (λ (d : Account). total_at c.args.moment d.standing d) system past c.self.inside.accounts.items c.args.moment c.thread.inside.0 c.args.thread
    c.index.result.now c.total_at.result v a up (omega (arith, c.get.ensures.value, c.get.ensures.in_range)) has c.index.ensures
    (subst (λ (d : Account). all_kept d + c.args.moment < 2 ^ 64 → c.total_at.result ≡ total_at c.args.moment d.standing d) c.account.ensures c.total_at.ensures)
    ∙ all-now system c.args.thread past c.args.moment up
