use Rattle.std.proofs.Common.{rules, ◌≡◌, ◌∙◌, ◌<◌, [], ap, arith, length, suc, sym}
use Rattle.std.specs.List.{filter_map, range_with_len}
use Rattle.std.specs.Prelude.{get_or}
use Rattle.mcs_core.specs.Clock.{schedule}
use Rattle.mcs_hints.proofs.Numbers.{kept_more}
use Rattle.mcs_system.specs.System.{core_of}
use Rattle.mcs_verdict.specs.Findings.{past_of}
use Rattle.mcs_verdict.specs.laws.ByCore.{home_of}
use Rattle.mcs_check.specs.declared.core_watch.CoreWatch.{CoreWatch}
use Rattle.mcs_check.specs.Judged.{unjudged}
use Rattle.mcs_check.specs.stored.ByCore.{before_on}
use Rattle.mcs_check.specs.stored.Found.{before_of}
use Rattle.mcs_check.proofs.ByHome.{kept-at-home, unjudged-home}
use Rattle.mcs_check.proofs.Cores.{thread-at}
use Rattle.mcs_check.proofs.by_core.unjudged_by_core.Goals as goal

pub loop-number-preserved : goal.loop-number-preserved
loop-number-preserved c = λ allowed from are.
    let parts = c.args.parts.now in
    let horizon = c.args.horizon in
    let n = c.loop-number.number in
    let part = c.part-item.result in
    let own = c.index-watches-core.result in
    let items : c.as_slice-part-items.result.now ≡ parts.threads = search rules in
    let known : n < length parts.threads = (let same = ap length items in let below = c.loop-number-test.true in omega arith) in
    let is : part ≡ get_or parts.threads n part = c.part-item.is ∙ ap (λ xs. get_or xs n part) items in
    let home = c.core_of_thread-core.ensures ∙ ap (core_of parts) (thread-at parts n part known is) in
    let kept = kept-at-home parts c.requires.well_formed allowed from horizon n c.core_of_thread-core.result c.args.watches.now own are home
    (c.index-watches-core.is ∙ ap (λ k. get_or c.args.watches.now k own) c.core.view_is) in
    let one : c.unjudged-one.result ≡ unjudged parts (before_of parts (suc horizon)) horizon n =
    c.unjudged-one.ensures (before_on parts (home_of parts c.loop-number.number) (suc horizon)) (sym (ap (λ (w : CoreWatch). w.watch) c.index-watches-core.is) ∙ kept.0) kept.1
    ∙ unjudged-home parts c.requires.well_formed c.cores_are_watched.ensures horizon n in
    kept_more (unjudged parts (before_of parts (suc horizon)) horizon) n c.unjudged-one.result [] _ _ (c.loop-number.invariant allowed from are) c.in_ok-keep_unjudged.ensures one

pub returns : goal.returns
returns c = λ allowed from are.
    let parts = c.args.parts.now in
    let items : c.as_slice-part-items.result.now ≡ parts.threads = search rules in
    let all : c.loop-number.number ≡ length parts.threads =
    (let same = ap length items in let over = c.loop-number-test.false in let end = c.loop-number.auto.number-end in omega arith) in
    c.loop-number.invariant allowed from are
    ∙ ap (λ n. filter_map (unjudged parts (past_of [] (schedule parts c.args.horizon)) c.args.horizon) (range_with_len 0 n)) all
