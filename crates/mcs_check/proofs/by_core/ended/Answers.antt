use Rattle.std.proofs.Common.{rules, ◌≡◌, ◌∙◌, ◌<◌, [], ap, arith, length, suc, sym}
use Rattle.std.specs.Prelude.{get_or}
use Rattle.mcs_ticks.specs.Capped.{capped}
use Rattle.mcs_core.specs.Clock.{schedule}
use Rattle.mcs_hints.proofs.Numbers.{at_number, one_more}
use Rattle.mcs_system.specs.System.{core_of}
use Rattle.mcs_verdict.specs.Findings.{past_of}
use Rattle.mcs_verdict.specs.laws.ByCore.{home_of}
use Rattle.mcs_check.specs.declared.core_watch.CoreWatch.{CoreWatch}
use Rattle.mcs_check.specs.declared.thread_watch.ThreadWatch.{ThreadWatch}
use Rattle.mcs_check.specs.Judged.{ended}
use Rattle.mcs_check.specs.stored.ByCore.{before_on}
use Rattle.mcs_check.specs.stored.Found.{before_of}
use Rattle.mcs_check.specs.stored.Threads.{ended_of}
use Rattle.mcs_check.proofs.ByHome.{ended-home, kept-at-home}
use Rattle.mcs_check.proofs.Cores.{thread-at}
use Rattle.mcs_check.proofs.by_core.ended.Goals as goal

pub loop-number-init : goal.loop-number-init
loop-number-init c = λ allowed from are. c.in_ok-ended.ensures

pub loop-number-preserved : goal.loop-number-preserved
loop-number-preserved c = λ allowed from are.
    let parts = c.args.parts.now in
    let horizon = c.args.horizon in
    let n = c.loop-number.number in
    let part = c.part-item.result in
    let own = c.index-watches-core.result in
    let items : c.as_slice-part-items.result.now ≡ parts.threads = search rules in
    let known : n < length parts.threads = (let same = ap length items in let below = c.loop-number-test.true in omega arith) in
    let is : part ≡ get_or parts.threads n part = c.part-item.is ∙ ap (λ xs. get_or xs n part) items in
    let home = c.core_of_thread-core.ensures ∙ ap (core_of parts) (thread-at parts n part known is) in
    let kept = kept-at-home parts c.requires.well_formed allowed from horizon n c.core_of_thread-core.result c.args.watches.now own are home
    (c.index-watches-core.is ∙ ap (λ k. get_or c.args.watches.now k own) c.core.view_is) in
    let rounds : c.of.result ≡ capped (ended n (before_of parts (suc horizon))) =
    c.of.ensures ∙ ap (λ (t : ThreadWatch). get_or t.ended n 0) (sym (ap (λ (w : CoreWatch). w.watch) c.index-watches-core.is) ∙ kept.0)
    ∙ at_number (λ n. capped (ended n (before_on parts (home_of parts c.loop-number.number) (suc horizon)))) (length parts.threads) n 0 known
    ∙ ap capped (ended-home parts c.requires.well_formed c.cores_are_watched.ensures horizon n) in
    one_more (λ n. capped (ended n (before_of parts (suc horizon)))) n c.of.result _ _ (c.loop-number.invariant allowed from are) c.in_ok-push.ensures rounds

pub returns : goal.returns
returns c = λ allowed from are.
    let parts = c.args.parts.now in
    let items : c.as_slice-part-items.result.now ≡ parts.threads = search rules in
    let all : c.loop-number.number ≡ length parts.threads =
    (let same = ap length items in let over = c.loop-number-test.false in let end = c.loop-number.auto.number-end in omega arith) in
    c.loop-number.invariant allowed from are ∙ ap (λ n. ended_of n (past_of [] (schedule parts c.args.horizon))) all
