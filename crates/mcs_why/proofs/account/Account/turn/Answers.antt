use Rattle.std.proofs.Common.{◌≡◌, ◌+◌, ◌≤◌, ◌<◌, ap, ◌∙◌, arith}
use Rattle.mcs_verdict.specs.Account.{since_of}
use Rattle.mcs_why.specs.Running.{turns}
use Rattle.mcs_why.specs.Account.{Account, passed_at, account_at}
use Rattle.mcs_why.proofs.Accounts.{with_runner, turned, up_to_row, since_row}
use Rattle.mcs_why.proofs.account.Account.turn.Goals as goal

pub returns : goal.returns
returns c threads core from to past e is up =
    let kept = c.pass.view_is ∙ e in
    let rows = turns core past in
    let moment = c.args.row.now.moment in
    let at : c.passed_at.result ≡ passed_at from to moment =
    c.passed_at.ensures ∙ ap (λ (account : Account). passed_at account.from account.to moment) kept
    in
    let rises : passed_at from to (since_of rows) ≤ c.passed_at.result =
    let rises = up_to_row core from to moment past up in
    omega (arith, rises, at)
    in
    let since : passed_at from to (since_of rows) < c.passed_at.result → since_of rows ≤ from + passed_at from to (since_of rows) =
    λ less. since_row core from to moment past (omega (arith, less, at))
    in
    let passed = c.pass-2.ensures threads core from to (passed_at from to (since_of rows)) rows e rises since in
    ap (λ account. with_runner account c.runner-self-inside.result) (c.self.view_is ∙ passed ∙ ap (account_at threads core from to rows) at)
    ∙ ap (with_runner (account_at threads core from to rows (passed_at from to moment))) c.runner-self-inside.ensures
    ∙ turned threads core from to c.args.row.now past is
