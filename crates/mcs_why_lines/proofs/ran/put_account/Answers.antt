use Rattle.std.proofs.Common.{length}
use Rattle.std.proofs.lemmas.Result.{on_ok_weaker}
use Rattle.mcs_why.specs.Running.{idle_in}
use Rattle.mcs_why_lines.specs.Account.{ran_lines, span_line}
use Rattle.mcs_why_lines.proofs.Runners.{accounted}
use Rattle.mcs_why_lines.proofs.ran.put_account.Goals as goal

pub returns : goal.returns
returns c past account =
    let how = c.args.format in
    let system = c.args.system.now in
    let span = c.args.span.now in
    let ran = ran_lines how system span.core past span.from span.to 0 system.threads in
    let threads = c.in_ok-put_threads.ensures span.core span.from span.to past account in
    let idle = c.idle.ensures (length system.threads) span.core span.from span.to past account in
    on_ok_weaker c.put_idle.result (λ last. accounted how _ _ _ _ (span_line how system span) ran _ (idle_in span.core past span.from span.to) idle
    c.in_ok-put_span.ensures threads last) c.put_idle.ensures
