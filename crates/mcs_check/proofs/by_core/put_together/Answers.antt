use Rattle.std.proofs.Common.{rules, ◌≡◌, ◌∙◌, ◌+◌, [], ap, length, replicate, subst, sym}
use Rattle.mcs_core.specs.Clock.{schedule}
use Rattle.mcs_system.specs.System.{System}
use Rattle.mcs_verdict.specs.Findings.{past_of}
use Rattle.mcs_check.specs.Judged.{all_unjudged}
use Rattle.mcs_check.specs.stored.Rounds.{AreWatched}
use Rattle.mcs_check.specs.stored.Threads.{ended_of}
use Rattle.mcs_check.proofs.by_core.put_together.Goals as goal

pub returns-clause-unended : goal.returns-clause-unended
returns-clause-unended c = λ allowed from are. c.in_ok-at_end.ensures allowed from are

pub returns-clause-rounds : goal.returns-clause-rounds
returns-clause-rounds c = λ allowed from are.
    let same = c.parts-parts.ensures.same in
    let threads_are : c.as_slice.result.now ≡ c.args.system.now.threads = search rules in
    let watched = subst (λ (s : System). AreWatched s allowed from (replicate s.cores (c.args.horizon + 1)) c.args.watches.now) (sym same) are in
    let ended = c.in_ok-ended.ensures allowed from watched
    ∙ ap (λ (s : System). ended_of (length s.threads) (past_of [] (schedule s c.args.horizon))) same in
    c.judged.ensures c.args.system.now (past_of [] (schedule c.args.system.now c.args.horizon)) threads_are ended

pub returns-clause-unjudged : goal.returns-clause-unjudged
returns-clause-unjudged c = λ allowed from are.
    let same = c.parts-parts.ensures.same in
    c.in_ok-unjudged_by_core.ensures allowed from
    (subst (λ (s : System). AreWatched s allowed from (replicate s.cores (c.args.horizon + 1)) c.args.watches.now) (sym same) are)
    ∙ ap (λ (s : System). all_unjudged s (past_of [] (schedule s c.args.horizon)) c.args.horizon) same
