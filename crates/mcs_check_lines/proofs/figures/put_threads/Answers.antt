use Rattle.std.proofs.Common.{rules, ◌<◌, ◌≤◌, drop, length}
use Rattle.std.proofs.lemmas.List.{drop_all, drop_more}
use Rattle.mcs_system.specs.System.{no_thread}
use Rattle.mcs_check_lines.proofs.Threads.{no-more, one-more}
use Rattle.mcs_check_lines.proofs.figures.put_threads.Goals as goal

pub loop-number-preserved : goal.loop-number-preserved
loop-number-preserved c horizon past watch table up =
    let system = c.args.system.now in
    let n = c.loop-number.number in
    let has : c.loop-number.number < length c.args.system.now.threads = search rules in
    one-more c.args.format system horizon past n _ _ (drop n system.threads) _ c.loop-number.text.items _ c.figures_of-figures.result
    (drop_more system.threads n no_thread has) (c.figures_of-figures.ensures horizon past watch table up) c.in_ok-put_thread_as.ensures.ok
    (c.loop-number.invariant horizon past watch table up)

pub returns : goal.returns
returns c horizon past watch table up =
    let system = c.args.system.now in
    let n = c.loop-number.number in
    let all : length c.args.system.now.threads ≤ c.loop-number.number = search rules in
    no-more c.args.format system horizon past n _ (drop n system.threads) c.loop-number.text.items (drop_all n system.threads all)
    (c.loop-number.invariant horizon past watch table up)
