use Rattle.std.proofs.Common.{◌≡◌, ℕ, List, drop}
use Rattle.mcs_ticks.specs.declared.row.Row.{Row}
use Rattle.mcs_verdict.specs.Findings.{InOrder}
use Rattle.mcs_why.specs.Account.{account_of}
use Rattle.mcs_why.proofs.Rows.{Tells}
use Rattle.mcs_why.proofs.all.tell_all.Given as goal

abbrev pub invariant-loop-row : goal.invariant-loop-row
invariant-loop-row l =
    (threads core from to : ℕ) (past : List Row) → l.initial.account ≡ account_of threads core from to past → InOrder past l.rows
    → Tells threads core from to past l.rows (drop l.row-index l.rows) l.account
