-- The part of an account that remains when its tally is cleared, and the rows that a tally holds.
use Rattle.std.proofs.Common.{◌++◌, ◌∷◌, [], List, true, subst, sym, ap, ◌∙◌}
use Rattle.std.proofs.lemmas.List.Sums.{fold-append}
use Rattle.mcs_ticks.specs.declared.row.Row.{Row}
use Rattle.mcs_report.specs.declared.account.Account.{Account}
use Rattle.mcs_report.specs.Tally.{opened}
use Rattle.mcs_report.specs.CoreTally.{CoreTally, core_added, opened_core_tally, HoldsRows, CoreCounts}

-- as before the first row
abbrev pub reopened : Account → Account
reopened account = opened account.core account.deadline

-- a further row that it takes is held after the others
pub holds_added : (before after : CoreTally) (held : List Row) (row : Row) → HoldsRows before held → CoreCounts before row true after
    → HoldsRows after (held ++ row ∷ [])
holds_added before after held row holds counts =
    subst (λ tally. HoldsRows tally (held ++ row ∷ [])) (sym counts.1)
    (ap (λ tally. core_added tally row) holds
    ∙ sym (fold-append core_added (opened_core_tally before.system before.core before.horizon) held (row ∷ [])))
