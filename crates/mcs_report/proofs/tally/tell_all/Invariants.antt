use Rattle.std.proofs.Common.{◌≡◌, ℕ, List, drop, fold}
use Rattle.mcs_report.specs.declared.account.Account.{Account}
use Rattle.mcs_report.specs.Tally.{Tally, added}
use Rattle.mcs_report.proofs.tally.tell_all.Given as goal

abbrev pub tally : ℕ → ℕ → ℕ → List Account → Tally
tally horizon cores last accounts = record { horizon = horizon; cores = cores; last = last; accounts = accounts }

abbrev pub invariant-loop-row : goal.invariant-loop-row
invariant-loop-row l =
    (cores : ℕ) →
    fold added (tally l.horizon cores l.moment l.accounts) (drop l.row-index l.rows)
    ≡ fold added (tally l.horizon cores l.fn.last l.initial.accounts) l.rows
