use Rattle.std.proofs.Common.{◌≡◌, ◌++◌, ℕ, List, drop, length}
use Rattle.mcs_ticks.specs.declared.row.Row.{Row}
use Rattle.mcs_why.specs.Account.{account_of}
use Rattle.mcs_why_lines.specs.Account.{ran_lines}
use Rattle.mcs_why_lines.proofs.ran.put_threads.Given as goal

abbrev pub invariant-loop-number : goal.invariant-loop-number
invariant-loop-number l =
    (core from to : ℕ) (past : List Row) → l.account ≡ account_of (length l.system.threads) core from to past
    → l.text.items ++ ran_lines l.format l.system core past from to l.number (drop l.number l.system.threads)
    ≡ l.initial.text.items ++ ran_lines l.format l.system core past from to 0 l.system.threads
