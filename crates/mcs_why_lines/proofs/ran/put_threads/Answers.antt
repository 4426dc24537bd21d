use Rattle.std.proofs.Common.{rules, ◌≡◌, ◌∙◌, ◌<◌, ◌≤◌, ap, drop, if◌then◌else◌, length, lt-ltb}
use Rattle.std.proofs.lemmas.List.{drop_all, drop_more}
use Rattle.mcs_system.specs.System.{no_thread}
use Rattle.mcs_why.specs.Running.{ran_in}
use Rattle.mcs_why_lines.proofs.Runners.{no-more, one-more}
use Rattle.mcs_why_lines.proofs.ran.put_threads.Goals as goal

pub loop-number-preserved : goal.loop-number-preserved
loop-number-preserved c core from to past account =
    let system = c.args.system.now in
    let n = c.loop-number.number in
    let has : c.loop-number.number < length c.args.system.now.threads = search rules in
    let ran : c.ran-ticks.result ≡ ran_in core n past from to =
    c.ran-ticks.ensures (length system.threads) core from to past account
    ∙ ap (λ b. if b then ran_in core n past from to else 0) (lt-ltb n (length system.threads) has)
    in
    one-more c.args.format system core past from to n _ _ (drop n system.threads) _ c.loop-number.text.items _ c.ran-ticks.result
    (drop_more system.threads n no_thread has) ran c.in_ok-put_ran.ensures
    (c.loop-number.invariant core from to past account)

pub returns : goal.returns
returns c core from to past account =
    let system = c.args.system.now in
    let n = c.loop-number.number in
    let all : length c.args.system.now.threads ≤ c.loop-number.number = search rules in
    no-more c.args.format system core past from to n _ (drop n system.threads) c.loop-number.text.items (drop_all n system.threads all)
    (c.loop-number.invariant core from to past account)
