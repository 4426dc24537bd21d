use Rattle.std.proofs.Common.{rules, ◌≡◌, ◌∙◌, ◌++◌, ◌<◌, ◌≤◌, [], ap, append-nil, length, sym}
use Rattle.std.proofs.lemmas.List.{drop_all}
use Rattle.std.specs.Prelude.{get_or}
use Rattle.mcs_core.specs.Clock.{schedule}
use Rattle.mcs_system.specs.WellFormed.{IsWellFormed}
use Rattle.mcs_verdict.specs.Findings.{past_of, untaken_at_end}
use Rattle.mcs_check.specs.declared.core_watch.CoreWatch.{CoreWatch}
use Rattle.mcs_check.specs.declared.thread_watch.ThreadWatch.{ThreadWatch}
use Rattle.mcs_check.proofs.Cores.{untaken-at-home, untaken-next}
use Rattle.mcs_check.proofs.by_core.keep_untaken.Goals as goal

pub loop-number-preserved : goal.loop-number-preserved
loop-number-preserved c = λ allowed from are.
    let system = c.args.system.now in
    let horizon = c.args.horizon in
    let n = c.loop-number.number in
    let core = c.home_of-core.result in
    let well : IsWellFormed system = search rules in
    let known : n < length system.notes = search rules in
    let found = untaken-at-home system allowed well c.cores_are_watched.ensures from horizon n core c.args.watches.now c.index-watches-core.result c.untaken-finding.result are
    c.home_of-core.ensures.home c.home_of-core.ensures.known
    (c.index-watches-core.is ∙ ap (λ k. get_or c.args.watches.now k c.index-watches-core.result) c.core.view_is)
    (λ past e. c.untaken-finding.ensures system past (ap (λ (t : ThreadWatch). t.accounts) (sym (ap (λ (w : CoreWatch). w.watch) c.index-watches-core.is) ∙ e))) in
    untaken-next system (past_of [] (schedule system horizon)) horizon n core c.untaken-finding.result c.loop-number.found.items c.keep_finding.new.found.items _ known
    c.home_of-core.ensures.home found c.in_ok-keep_finding.ensures.ok (c.loop-number.invariant allowed from are)

pub returns : goal.returns
returns c = λ allowed from are.
    let system = c.args.system.now in
    let past = past_of [] (schedule system c.args.horizon) in
    let over : length system.notes ≤ c.loop-number.number = search rules in
    sym (append-nil c.loop-number.found.items)
    ∙ ap (λ rest. c.loop-number.found.items ++ untaken_at_end system past c.args.horizon c.loop-number.number rest) (sym (drop_all c.loop-number.number system.notes over))
    ∙ c.loop-number.invariant allowed from are
