use Rattle.std.proofs.Common.{◌≡◌, ◌-◌, ◌<◌, ◌≤◌, cond, length, ap, ◌∙◌, arith}
use Rattle.mcs_verdict.specs.Account.{since_of}
use Rattle.mcs_why.specs.Running.{turns, is_thread}
use Rattle.mcs_why.specs.Account.{Account, runner_now, passed_at}
use Rattle.mcs_why.proofs.Accounts.{ran_whole, ran_known, ran_unknown}
use Rattle.mcs_why.proofs.account.Account.ran.Goals as goal

pub returns-then-thread-len : goal.returns-then-thread-len
returns-then-thread-len c threads core from to past e =
    let kept = c.self.view_is ∙ e in
    let rows = turns core past in
    let rest : c.rest.result ≡ to - from - passed_at from to (since_of rows) =
    c.rest.ensures.value ∙ ap (λ (account : Account). account.to - account.from - account.passed) e
    in
    let more : c.ticks_if-rest.result ≡ cond (is_thread c.args.thread (runner_now rows)) (to - from - passed_at from to (since_of rows)) 0 =
    c.ticks_if-rest.ensures
    ∙ ap (λ is. cond is c.rest.result 0) (c.is_thread.ensures ∙ ap (λ (account : Account). is_thread c.args.thread account.runner) kept)
    ∙ ap (λ n. cond (is_thread c.args.thread (runner_now rows)) n 0) rest
    in
    let until : c.args.self.now.to ≡ to = ap (λ (account : Account). account.to) e in
    let first : c.thread.inside.0 ≡ c.args.thread = c.thread.view_is in
    let at : c.thread-then-thread-len.inside.0 ≡ c.args.thread = c.thread-then-thread-len.view_is in
    let has : c.thread-then-thread-len.inside.0 < length c.self.inside.ran.items =
    omega (arith, c.if-thread-len.true, c.len.ensures, first, at)
    in
    ran_whole threads core from to c.args.thread c.thread-then-thread-len.inside.0 c.index.result.now c.ticks_if-rest.result
    c.saturating_add.result c.index.result.now past c.self.inside.ran.items at has (ap (λ (account : Account). account.ran) kept)
    c.index.ensures more c.saturating_add.ensures (omega (arith, c.rest.ensures.small, until))
    ∙ ran_known threads core from to c.args.thread c.thread-then-thread-len.inside.0 past c.self.inside.ran.items at has
    (ap (λ (account : Account). account.ran) kept)

pub returns-else-thread-len : goal.returns-else-thread-len
returns-else-thread-len c threads core from to past e =
    let kept = c.self.view_is ∙ e in
    let none : length c.self.inside.ran.items ≤ c.thread.inside.0 = omega (arith, c.if-thread-len.false, c.len.ensures) in
    ran_unknown threads core from to c.args.thread c.thread.inside.0 past c.self.inside.ran.items c.thread.view_is none
    (ap (λ (account : Account). account.ran) kept)
