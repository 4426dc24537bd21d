use Rattle.std.proofs.Common.{◌≡◌, ℕ, ◌+◌, ◌-◌, ◌^◌, ◌<◌, cond, map, refl, ap, ◌∙◌, arith}
use Rattle.std.specs.List.{range_with_len}
use Rattle.std.proofs.lemmas.List.{with_items_is}
use Rattle.mcs_why.specs.Running.{is_thread, is_nobody, ticks_for}
use Rattle.mcs_why.specs.Account.{Account, runner_now}
use Rattle.mcs_why.proofs.Ticks.{few}
use Rattle.mcs_why.proofs.Ranges.{with_more}
use Rattle.mcs_why.proofs.Accounts.{same_account, fits, ran_more, idle_more}
use Rattle.mcs_why.proofs.account.Account.pass.Goals as goal

pub returns : goal.returns
returns c threads core from to before rows e up since =
    let kept = c.self.view_is ∙ e in
    let passed : ℕ = c.args.passed in
    let small : passed < 2 ^ 64 = omega (arith, c.ranges.passed.fits) in
    let runner : c.self.inside.runner ≡ runner_now rows = ap (λ (account : Account). account.runner) kept in
    let ticks : c.saturating_sub-ticks.result ≡ passed - before =
    c.saturating_sub-ticks.ensures ∙ ap (λ n. passed - n) (ap (λ (account : Account). account.passed) kept)
    in
    let each : (thread : ℕ) → ticks_for (is_thread thread) rows from before + c.saturating_sub-ticks.result < 2 ^ 64 =
    λ thread.
    let few : ticks_for (is_thread thread) rows from before + (passed - before) < 2 ^ 64 =
    fits (ticks_for (is_thread thread) rows from before) before passed (few (is_thread thread) rows from before) up small
    in
    omega (arith, few, ticks)
    in
    let ran : c.count.new.ran ≡ map (λ thread. ticks_for (is_thread thread) rows from passed) (range_with_len 0 threads) =
    c.count.ensures (λ thread. ticks_for (is_thread thread) rows from before) threads
    (c.as_mut_slice.ensures.value ∙ ap (λ (account : Account). account.ran) kept) each
    ∙ ap
    (λ who. map (with_more who c.saturating_sub-ticks.result (λ thread. ticks_for (is_thread thread) rows from before)) (range_with_len 0 threads))
    runner
    ∙ ap
    (λ n. map (with_more (runner_now rows) n (λ thread. ticks_for (is_thread thread) rows from before)) (range_with_len 0 threads))
    ticks
    ∙ ran_more rows from before passed threads up since
    in
    let more : c.ticks_if.result ≡ cond (is_nobody (runner_now rows)) (passed - before) 0 =
    c.ticks_if.ensures
    ∙ ap (λ is. cond is c.saturating_sub-ticks.result 0) (c.is_nobody.ensures ∙ ap is_nobody runner)
    ∙ ap (λ n. cond (is_nobody (runner_now rows)) n 0) ticks
    in
    let idle : c.saturating_add-self-inside.result ≡ ticks_for is_nobody rows from passed =
    idle_more rows from before passed c.saturating_add-self-inside.result c.self.inside.idle c.ticks_if.result up small since
    c.saturating_add-self-inside.ensures (ap (λ (account : Account). account.idle) kept) more
    in
    same_account _ _ _ _ _ _ _ _ _ _ _ _ _ _ (ap (λ (account : Account). account.core) kept) (ap (λ (account : Account). account.from) kept)
    (ap (λ (account : Account). account.to) kept) refl runner
    (with_items_is c.self.inside.ran c.count.new.ran (c.count.auto.ran ∙ c.as_mut_slice.ensures.len) ∙ ran) idle
