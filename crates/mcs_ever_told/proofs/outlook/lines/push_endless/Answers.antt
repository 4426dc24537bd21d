use Rattle.std.proofs.Common.{◌≡◌, ◌++◌, ℕ, length, ap, ◌∙◌, arith, rules}
use Rattle.std.specs.List.{filter_map, range_with_len}
use Rattle.mcs_system.specs.System.{System}
use Rattle.mcs_verdict.specs.Misses.{unended}
use Rattle.mcs_ever_found.specs.Period.{endless_round}
use Rattle.mcs_ever_told.specs.Lines.{ever_line}
use Rattle.mcs_ever_told.proofs.Numbers.{lines-more}
use Rattle.mcs_ever_told.proofs.outlook.lines.push_endless.Goals as goal

pub loop-thread-preserved : goal.loop-thread-preserved
loop-thread-preserved c = λ by from before past near kept watched up.
    let s = c.args.system.now in
    lines-more (ever_line s c.args.own.now (endless_round s by from) (unended s past c.args.last))
    c.loop-thread.thread _ _ _ _ (c.loop-thread.invariant by from before past near kept watched up) c.in_ok-push.ensures (c.ever_line-line.ensures by from before past near kept watched up)

pub returns : goal.returns
returns c = λ by from before past near kept watched up.
    let s = c.args.system.now in
    let many : length c.parts.result.now.threads ≡ length s.threads = ap (λ (s : System). length s.threads) c.parts.ensures.same in
    let all : c.loop-thread.thread ≡ length s.threads = (let n : c.len-thread-end.result ≡ length c.parts.result.now.threads = search rules in
    let l = c.loop-thread-test.false in let end = c.loop-thread.auto.thread-end in omega (arith, n, many)) in
    c.loop-thread.invariant by from before past near kept watched up
    ∙ ap (λ (n : ℕ). c.args.lines.now.items ++ filter_map (ever_line s c.args.own.now (endless_round s by from) (unended s past c.args.last)) (range_with_len 0 n)) all
