use Rattle.std.proofs.Common.{◌≡◌, ◌∙◌, ℕ, ap, get_or, set}
use Rattle.std.specs.Prelude.{◌==◌}
use Rattle.mcs_ticks.specs.Capped.{one_more}
use Rattle.mcs_check.specs.Judged.{ends}
use Rattle.mcs_check.proofs.EndedRounds.{ended-round}
use Rattle.mcs_check.proofs.ended.Ended.see.Goals as goal

pub returns-in-Round : goal.returns-in-Round
returns-in-Round c = λ threads past e.
    let row = c.args.row.now in
    let thread = c.in-Round.thread in
    let is : (n : ℕ) → ends n row.what ≡ (thread == n) = λ n. ap (ends n) c.in-Round.is in
    c.count.ensures ∙ ap (λ l. set l thread (one_more (get_or l thread 0))) (c.self.view_is ∙ e) ∙ ended-round threads thread row past is
