use Rattle.std.proofs.Common.{◌∙◌, ◌+◌, ◌++◌, [], ap, replicate, subst, sym}
use Rattle.mcs_core.specs.Clock.{schedule}
use Rattle.mcs_system.specs.System.{System}
use Rattle.mcs_verdict.specs.Findings.{found_at_end, past_of, untaken_at_end}
use Rattle.mcs_check.specs.stored.Rounds.{AreWatched}
use Rattle.mcs_check.proofs.by_core.at_end.Goals as goal

pub returns : goal.returns
returns c = λ allowed from are.
    let same = c.parts-parts.ensures.same in
    let system = c.args.system.now in
    let horizon = c.args.horizon in
    let threads = c.in_ok-found.ensures allowed from
    (subst (λ (s : System). AreWatched s allowed from (replicate s.cores (horizon + 1)) c.args.watches.now) (sym same) are)
    ∙ ap (λ (s : System). found_at_end s (past_of [] (schedule s horizon)) horizon 0 s.threads) same in
    c.in_ok-keep_untaken.ensures allowed from are
    ∙ ap (λ found. found ++ untaken_at_end system (past_of [] (schedule system horizon)) horizon 0 system.notes) threads
