use Rattle.std.proofs.Common.{◌≡◌, ◌+◌, Bool, cond, ◌∷◌, sym, ap, ◌∙◌}
use Rattle.mcs_histogram.specs.Histogram.{histogram_of}
use Rattle.mcs_verdict.specs.Misses.{is_above}
use Rattle.mcs_table.specs.declared.account.Account.{Account}
use Rattle.mcs_ticks.specs.Capped.{capped}
use Rattle.mcs_table.specs.Rounds.{greatest, missed_in}
use Rattle.mcs_table.proofs.Ended.{same_account, missed-more}
use Rattle.mcs_table.proofs.account.Account.end.Goals as goal

pub returns : goal.returns
returns c horizon deadline late responses e =
    let d : c.args.self.now.deadline ≡ deadline = ap (λ (account : Account). account.deadline) e in
    let g : c.or_greater-self.result ≡ greatest (c.args.response ∷ responses) =
    c.or_greater-self.ensures responses (ap (λ (account : Account). account.greatest) e)
    in
    let m : c.counted-self.result ≡ capped (missed_in deadline (c.args.response ∷ responses)) =
    c.counted-self.ensures (missed_in deadline responses)
    (ap (λ (account : Account). account.missed) e)
    ∙ ap (λ (b : Bool). capped (cond b 1 0 + missed_in deadline responses)) (c.is_above.ensures ∙ ap (λ d. is_above d c.args.response) d)
    ∙ ap capped (sym (missed-more deadline c.args.response responses))
    in
    let l : c.counted-self-2.result ≡ capped (cond (is_above deadline c.args.told) 1 0 + late) =
    c.counted-self-2.ensures late (ap (λ (account : Account). account.late) e)
    ∙ ap (λ (b : Bool). capped (cond b 1 0 + late)) (c.is_above-2.ensures ∙ ap (λ d. is_above d c.args.told) d)
    in
    let h : c.record.new.self ≡ histogram_of horizon (c.args.response ∷ responses) =
    c.record.ensures horizon responses (ap (λ (account : Account). account.responses) e)
    in
    same_account c.args.self.now.deadline deadline c.counted-self.result _ c.counted-self-2.result _ c.or_greater-self.result _
    c.record.new.self _ d g m l h
