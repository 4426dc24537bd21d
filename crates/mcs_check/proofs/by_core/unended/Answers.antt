use Rattle.std.proofs.Common.{rules, ◌≡◌, ◌∙◌, ◌++◌, ◌<◌, ◌≤◌, [], ap, append-nil, arith, length, sym}
use Rattle.std.proofs.lemmas.List.{drop_all}
use Rattle.std.specs.Prelude.{get_or}
use Rattle.mcs_core.specs.Clock.{schedule}
use Rattle.mcs_system.specs.System.{core_of}
use Rattle.mcs_verdict.specs.Findings.{found_at_end, past_of}
use Rattle.mcs_check.specs.declared.core_watch.CoreWatch.{CoreWatch}
use Rattle.mcs_check.specs.declared.thread_watch.ThreadWatch.{ThreadWatch}
use Rattle.mcs_check.proofs.Cores.{found-at-home, thread-at, unended-next}
use Rattle.mcs_check.proofs.by_core.unended.Goals as goal

pub loop-number-preserved : goal.loop-number-preserved
loop-number-preserved c = λ allowed from are.
    let parts = c.args.parts.now in
    let horizon = c.args.horizon in
    let n = c.loop-number.number in
    let part = c.part-item.result in
    let core = c.core_of_thread-core.result in
    let items : c.as_slice-part-items.result.now ≡ parts.threads = search rules in
    let known : n < length parts.threads = (let same = ap length items in let below = c.loop-number-test.true in omega arith) in
    let is : part ≡ get_or parts.threads n part = c.part-item.is ∙ ap (λ xs. get_or xs n part) items in
    let home = c.core_of_thread-core.ensures ∙ ap (core_of parts) (thread-at parts n part known is) in
    let found = found-at-home parts allowed c.requires.well_formed c.cores_are_watched.ensures from horizon n core c.args.watches.now c.index-watches-core.result c.unended-finding.result are home
    (c.index-watches-core.is ∙ ap (λ k. get_or c.args.watches.now k c.index-watches-core.result) c.core.view_is) (λ past e up. c.unended-finding.ensures parts past (ap (λ (t : ThreadWatch). t.accounts) (sym (ap (λ (w : CoreWatch). w.watch) c.index-watches-core.is) ∙ e)) up) in
    unended-next parts (past_of [] (schedule parts horizon)) horizon n part core c.unended-finding.result c.loop-number.found.items c.keep_finding.new.found.items _ known is c.core_of_thread-core.ensures
    found c.in_ok-keep_finding.ensures.ok (c.loop-number.invariant allowed from are)

pub returns : goal.returns
returns c = λ allowed from are.
    let parts = c.args.parts.now in
    let past = past_of [] (schedule parts c.args.horizon) in
    let items : c.as_slice-part-items.result.now ≡ parts.threads = search rules in
    let over : length parts.threads ≤ c.loop-number.number = (let same = ap length items in let past = c.loop-number-test.false in omega arith) in
    sym (append-nil c.loop-number.found.items)
    ∙ ap (λ rest. c.loop-number.found.items ++ found_at_end parts past c.args.horizon c.loop-number.number rest) (sym (drop_all c.loop-number.number parts.threads over))
    ∙ c.loop-number.invariant allowed from are
