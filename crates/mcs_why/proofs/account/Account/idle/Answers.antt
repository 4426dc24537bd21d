use Rattle.std.proofs.Common.{◌≡◌, ◌-◌, cond, ap, ◌∙◌, arith}
use Rattle.mcs_verdict.specs.Account.{since_of}
use Rattle.mcs_why.specs.Running.{turns, is_nobody}
use Rattle.mcs_why.specs.Account.{Account, runner_now, passed_at}
use Rattle.mcs_why.proofs.Accounts.{idle_whole}
use Rattle.mcs_why.proofs.account.Account.idle.Goals as goal

pub returns : goal.returns
returns c threads core from to past e =
    let kept = c.self.view_is ∙ e in
    let rows = turns core past in
    let rest : c.rest.result ≡ to - from - passed_at from to (since_of rows) =
    c.rest.ensures.value ∙ ap (λ (account : Account). account.to - account.from - account.passed) e
    in
    let more : c.ticks_if-rest.result ≡ cond (is_nobody (runner_now rows)) (to - from - passed_at from to (since_of rows)) 0 =
    c.ticks_if-rest.ensures
    ∙ ap (λ is. cond is c.rest.result 0) (c.is_nobody.ensures ∙ ap (λ (account : Account). is_nobody account.runner) kept)
    ∙ ap (λ n. cond (is_nobody (runner_now rows)) n 0) rest
    in
    let until : c.args.self.now.to ≡ to = ap (λ (account : Account). account.to) e in
    idle_whole core from to c.self.inside.idle c.ticks_if-rest.result c.saturating_add.result past
    (ap (λ (account : Account). account.idle) kept) more c.saturating_add.ensures (omega (arith, c.rest.ensures.small, until))
